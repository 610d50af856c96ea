-- The entries of a CONFIG: docs/commands.md, 'yam pack'.
use Rattle.std.specs.Prelude.{ℕ, Bool, true, ◌||◌, List, [], ◌∷◌, eqb}
use Rattle.std.specs.List.{before_first, after_first}
use Rattle.laws.specs.Choice.{pick}
use Rattle.syntax.specs.Lines.{newline, space, onto}

-- "entries .. with one or more spaces or newlines between them, before the first and after the last none or more"

abbrev pub is_blank : ℕ → Bool
is_blank b = eqb b space || eqb b newline

-- nothing, or a blank first
unfoldable pub ended : List ℕ → Bool
ended [] = true
ended (b ∷ t) = is_blank b

-- the longest runs of other bytes
unfoldable pub entries_of : List ℕ → List (List ℕ)
entries_of [] = []
entries_of (b ∷ t) = pick (is_blank b) (entries_of t) (pick (ended t) ((b ∷ []) ∷ entries_of t) (onto b (entries_of t)))

-- "NAME=VALUE"

abbrev pub equals : ℕ
equals = 61

unfoldable pub name_in : List ℕ → List ℕ
name_in e = before_first (λ b. eqb b equals) e

-- what stands behind the first "="; nothing where there is none
unfoldable pub value_in : List ℕ → List ℕ
value_in e = after_first (λ b. eqb b equals) e
