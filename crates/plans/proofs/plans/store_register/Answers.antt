-- `plans::plans::store_register` meets its contract. Assumes nothing.
use Rattle.laws.specs.Choice.{pick}
use Rattle.std.proofs.Common.{le-ltb, lt-ltb}
use Rattle.plans.proofs.plans.store_register.Goals as goal

pub returns-then-t-c : goal.returns-then-t-c
unfolding pick
returns-then-t-c c = rw (lt-ltb _ _ c.if-t-c.true, c.to_memory.ensures, c.next.ensures)

pub returns : goal.returns
unfolding pick
returns c = rw (le-ltb _ _ c.if-t-c.false, c.stopped.ensures)
