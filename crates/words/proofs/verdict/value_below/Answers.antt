-- `words::verdict::value_below` meets its contract. Assumes nothing.
use mathlib.Core.Path.{refl}
use Rattle.words.specs.Codes.{part_code}
use Rattle.words.specs.Packed.{in_limit}
use Rattle.words.proofs.verdict.value_below.Goals as goal

pub returns : goal.returns
unfolding in_limit part_code
returns c = rw c.below.ensures refl
