-- `words::limits::limits` meets its contract. Assumes nothing.
use mathlib.Core.Path.{refl}
use Rattle.words.proofs.limits.limits.Goals as goal

pub returns : goal.returns
returns c = (refl, refl)
