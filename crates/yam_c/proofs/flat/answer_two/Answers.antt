-- `yam_c::flat::answer_two` meets its contract. Assumes nothing.
use Rattle.yam_c.specs.Flat.{stored}
use Rattle.yam_c.proofs.flat.answer_two.Goals as goal

pub returns : goal.returns
unfolding stored
returns c = rw (c.put-2.ensures, c.put.ensures)
