-- What the first pass over a text answers and leaves. Nothing here is to be believed: proofs/gathering/Laws.antt ties it to syntax's Labels and Assembly.
use Rattle.std.specs.Prelude.{ℕ, ◌≡◌, Bool, false, List, [], ◌∷◌, eqb, Option, Some, None, is_some, Result}
use Rattle.laws.specs.Choice.{pick}
use Rattle.laws.specs.Test.{most, same, ◌and◌}
use Rattle.laws.specs.First.{first_failing}
use Rattle.syntax.specs.Lines.{lines_of, labelled, counts}
use Rattle.syntax.specs.Labels.{gathered, repeats}
use Rattle.syntax.specs.Assembly.{how_many, label_limit}
use Rattle.assembler.specs.Errors.{number_of, line_of}
use Rattle.assembler.specs.Tables.{Tabled, index_of, Inserted}
use Rattle.assembler.specs.declared.errors.AssembleError.{AssembleError}
use Rattle.assembler.specs.declared.labels.Labels.{Labels}

-- whether a label, where there is one, is in the table
abbrev pub is_known : Labels → Option ℕ → Bool
is_known t None = false
is_known t (Some x) = is_some (index_of t x)

-- the table after a label, where there is one, is added
abbrev pub Added : Labels → Option ℕ → ℕ → Labels → Type 0
Added t None address t' = t' ≡ t
Added t (Some x) address t' = Inserted t x address t'

-- 36 and 24 of these lines
unfoldable pub gather_number : List (List ℕ) → ℕ → ℕ
gather_number ls room =
    first_failing ((36, most (how_many labelled ls) label_limit and most (how_many counts ls) room) ∷ (24, same (repeats [] 1 ls) 0) ∷ [])

-- what `gather` promises of its answer r and of the table after it
pub record Gathers (text : List ℕ) (room : ℕ) (r : Result (Unit {0}) AssembleError) (t : Labels) : Type 0 where
  pub number : number_of r ≡ gather_number (lines_of text) room
  pub line : line_of r ≡ pick (eqb (number_of r) 24) (repeats [] 1 (lines_of text)) 0
  pub tabled : number_of r ≡ 0 → Tabled t (gathered [] 0 (lines_of text))
