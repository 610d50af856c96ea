-- `plans::plans::call` meets its contract. Assumes nothing.
use Rattle.laws.specs.Choice.{pick}
use Rattle.std.proofs.Common.{le-ltb, lt-ltb}
use Rattle.plans.specs.Values.{up}
use Rattle.plans.proofs.plans.call.Goals as goal

pub returns-then-d-limit : goal.returns-then-d-limit
unfolding up pick
returns-then-d-limit c = rw (lt-ltb _ _ c.if-d-limit.true, c.to_stack.ensures, c.deep.ensures, c.go.ensures)

pub returns : goal.returns
unfolding pick
returns c = rw (le-ltb _ _ c.if-d-limit.false, c.stopped.ensures)
