-- The record's values as the code has them, as the fields of specs/Fields.antt.
use Rattle.std.specs.Prelude.{ℕ, ◌≡◌, List, [], ◌∷◌, ◌++◌}
use Rattle.state.specs.declared.Core.{Core}
use Rattle.syntax.specs.Quoted.{quoted}
use Rattle.report.specs.declared.fields.Field.{Field as Value}
use Rattle.report.specs.declared.fields.Shown.{Shown as Form}
use Rattle.report.specs.declared.fields.Shown.TheVariants.{Hex, Decimal}
use Rattle.report.specs.Fields.{Shown, hexed, counted, shown_as, Field, line_text, change_text}

abbrev pub shown_of : Form → Shown
shown_of (Hex w) = hexed w
shown_of Decimal = counted

abbrev pub shown_text : Form → ℕ → List ℕ
shown_text s n = shown_as (shown_of s) n

-- the line of each value
abbrev pub value_lines : List Value → List ℕ
value_lines [] = []
value_lines (v ∷ vs) = line_text v.name.now (shown_text v.shown v.value) ++ value_lines vs

-- each value that is another than before
abbrev pub value_changes : List Value → List Value → List ℕ
value_changes [] ws = []
value_changes (v ∷ vs) [] = []
value_changes (v ∷ vs) (w ∷ ws) = change_text w.name.now (shown_text w.shown w.value) v.value w.value ++ value_changes vs ws

-- a value is that of the field
pub record IsField (m : Core) (v : Value) (f : Field) : Type 0 where
  pub name : v.name.now ≡ quoted f.name
  pub shown : shown_of v.shown ≡ f.shown
  pub value : v.value ≡ f.value m

-- the values are those of the fields, in their order
abbrev pub HasFields : Core → List Value → List Field → Type 0
HasFields m [] [] = Unit {0}
HasFields m (v ∷ vs) [] = ⊥
HasFields m [] (f ∷ fs) = ⊥
HasFields m (v ∷ vs) (f ∷ fs) = IsField m v f × HasFields m vs fs
