-- The values of a machine's record by name, as the report prints them and as a trace prints what changed (docs/commands.md, 'yam run' and 'yam trace').
use Rattle.std.specs.Prelude.{ℕ, ◌/◌, List, [], ◌∷◌, ◌++◌, eqb}
use Prim.Native.String.{String}
use Rattle.laws.specs.Choice.{pick}
use Rattle.words.specs.declared.Config.{Config}
use Rattle.state.specs.declared.Core.{Core}
use Rattle.syntax.specs.Digits.{hex}
use Rattle.syntax.specs.Quoted.{quoted}
use Rattle.printing.specs.Numerals.{decimal}

-- "hex N", "decimal"
pub data Shown : Type 0 where
  hexed : ℕ → Shown
  counted : Shown

abbrev pub shown_as : Shown → ℕ → List ℕ
shown_as (hexed w) n = hex w n
shown_as counted n = decimal n

-- a value of the record: its name, how it is shown, and what it is
pub record Field : Type 0 where
  pub name : String
  pub shown : Shown
  pub value : Core → ℕ

abbrev pub field : String → Shown → (Core → ℕ) → Field
field name shown value = record { name = name; shown = shown; value = value }

-- hex digits of a word: "hex W/4"
abbrev pub word_digits : Config → ℕ
word_digits c = c.regwidth / 4

-- "WP", "RX, RY", "N, Z", ..: the report's order, from WP to depth

abbrev pub pointers : List Field
pointers =
    field "WP" (hexed 3) (λ m. m.wp) ∷
    field "RX" (hexed 2) (λ m. m.rx) ∷
    field "RY" (hexed 2) (λ m. m.ry) ∷
    field "N" (hexed 1) (λ m. m.n) ∷
    field "Z" (hexed 1) (λ m. m.z) ∷
    []

abbrev pub masks : Config → List Field
masks c =
    field "SPR7" (hexed (word_digits c)) (λ m. m.spr7) ∷
    field "IMask" (hexed 1) (λ m. m.imask) ∷
    field "saved" (hexed 1) (λ m. m.saved) ∷
    field "mode" (hexed 1) (λ m. m.mode) ∷
    field "posted" (hexed 1) (λ m. m.posted) ∷
    []

abbrev pub counts : Config → List Field
counts c =
    field "port" (hexed (word_digits c)) (λ m. m.port) ∷
    field "loaded" (hexed 1) (λ m. m.loaded) ∷
    field "taken" counted (λ m. m.taken) ∷
    field "logged" counted (λ m. m.logged) ∷
    field "depth" counted (λ m. m.depth) ∷
    []

-- "Each line is the name, a space and the value."
unfoldable pub line_text : List ℕ → List ℕ → List ℕ
line_text name value = name ++ (quoted " " ++ (value ++ quoted "\n"))

abbrev pub lines_of : List Field → Core → List ℕ
lines_of [] m = []
lines_of (f ∷ fs) m = line_text (quoted f.name) (shown_as f.shown (f.value m)) ++ lines_of fs m

-- "each with a space before it: the name, `=` and the new value .., for each value that is another than before"
unfoldable pub change_text : List ℕ → List ℕ → ℕ → ℕ → List ℕ
change_text name value old new = pick (eqb old new) [] (quoted " " ++ (name ++ (quoted "=" ++ value)))

abbrev pub changes_of : List Field → Core → Core → List ℕ
changes_of [] old new = []
changes_of (f ∷ fs) old new =
    change_text (quoted f.name) (shown_as f.shown (f.value new)) (f.value old) (f.value new) ++ changes_of fs old new
