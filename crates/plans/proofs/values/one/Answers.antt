-- `plans::values::one` meets its contract. Assumes nothing.
use Rattle.std.proofs.Common.{arith}
use Rattle.laws.specs.Choice.{pick}
use Rattle.arith.specs.Width.{one}
use Rattle.plans.proofs.values.one.Goals as goal

pub returns-then-b : goal.returns-then-b
unfolding one pick
returns-then-b c = (simp c.if-b.true, omega arith)

pub returns-else-b : goal.returns-else-b
unfolding one pick
returns-else-b c = (simp c.if-b.false, omega arith)
