-- `plans::plans::load_register` meets its contract. Assumes nothing.
use Rattle.laws.specs.Choice.{pick}
use Rattle.std.proofs.Common.{le-ltb, lt-ltb}
use Rattle.plans.proofs.plans.load_register.Goals as goal

pub returns-then-t-memory : goal.returns-then-t-memory
unfolding pick
returns-then-t-memory c = rw (lt-ltb _ _ c.if-t-memory.true, c.to_register.ensures, c.next.ensures, c.value_at.ensures)

pub returns : goal.returns
unfolding pick
returns c = rw (le-ltb _ _ c.if-t-memory.false, c.stopped.ensures)
