-- `machine::memories::commit` meets its contract. Assumes nothing.
use Rattle.state.specs.Step.{applied}
use Rattle.machine.proofs.memories.commit.Goals as goal

pub returns : goal.returns
unfolding applied
returns c = rw (c.put.ensures, c.put-2.ensures, c.put-3.ensures, c.put-4.ensures, c.put-5.ensures)
