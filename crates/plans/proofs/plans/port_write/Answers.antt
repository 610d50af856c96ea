-- `plans::plans::port_write` meets its contract. Assumes nothing.
use Rattle.laws.specs.Choice.{pick}
use Rattle.std.proofs.Common.{le-ltb, lt-ltb}
use Rattle.plans.proofs.plans.port_write.Goals as goal

pub returns-then-room-l : goal.returns-then-room-l
unfolding pick
returns-then-room-l c = rw (le-ltb _ _ c.if-room-l.true, c.stopped.ensures)

pub returns : goal.returns
unfolding pick
returns c = rw (lt-ltb _ _ c.if-room-l.false, c.to_log.ensures, c.posting.ensures, c.positioned.ensures, c.next.ensures)
