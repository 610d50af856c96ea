-- `plans::values::with_top_bit` meets its contract. Assumes nothing.
use Rattle.std.proofs.Common.{arith, le-leb}
use Rattle.laws.specs.Choice.{pick}
use borrow.Author.Tests.{lt-leb}
use Rattle.state.specs.Plans.{with_top_bit}
use Rattle.plans.proofs.values.with_top_bit.Goals as goal

pub overflow_add-result : goal.overflow_add-result
overflow_add-result c = omega (arith, c.half_of-top.ensures.1)

pub returns-then-top-x : goal.returns-then-top-x
unfolding with_top_bit pick
returns-then-top-x c = simp (le-leb _ _ (rw c.half_of-top.ensures.0 at c.if-top-x.true))

pub returns-else-top-x : goal.returns-else-top-x
unfolding with_top_bit pick
returns-else-top-x c = simp (lt-leb _ _ (rw c.half_of-top.ensures.0 at c.if-top-x.false), c.half_of-top.ensures.0)
