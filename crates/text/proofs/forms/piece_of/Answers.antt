-- `text::forms::piece_of` meets its contract. Assumes nothing.
use mathlib.Core.Path.{ap}
use mathlib.Core.List.{List, ◌++◌}
use Prim.Native.Nat.{ℕ}
use Rattle.syntax.specs.Digits.{hex}
use Rattle.text.specs.Packed.{piece_text}
use Rattle.text.proofs.forms.piece_of.Goals as goal

pub returns : goal.returns
unfolding piece_text
returns c = ap (λ (b : List ℕ). b ++ hex c.args.width c.args.value) c.string.ensures.0
