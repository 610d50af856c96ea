-- `yam_c::flat::answer` meets its contract. Assumes nothing.
use Rattle.yam_c.specs.Flat.{stored}
use Rattle.yam_c.proofs.flat.answer.Goals as goal

pub returns : goal.returns
unfolding stored
returns c = rw c.put.ensures
