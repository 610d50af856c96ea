-- `plans::plans::branch` meets its contract. Assumes nothing.
use Rattle.laws.specs.Choice.{pick}
use Rattle.std.proofs.Common.{eq-eqb, ne_eqb}
use Rattle.plans.specs.Values.{taken_at}
use Rattle.plans.proofs.plans.branch.Goals as goal

pub returns-then-taken-i-eq1 : goal.returns-then-taken-i-eq1
unfolding taken_at pick
returns-then-taken-i-eq1 c = rw (c.moved.ensures, c.go.ensures, eq-eqb _ _ c.if-taken-i-eq1.true)

pub returns : goal.returns
unfolding taken_at pick
returns c = rw (c.moved-2.ensures, c.next.ensures, ne_eqb _ _ c.if-taken-i-eq1.false)
