-- `state::Machine::stack_limit` meets its contract. Assumes nothing.
use Rattle.laws.specs.Choice.{pick}
use borrow.Author.Tests.{ne_eqb}
use Rattle.state.specs.State.{stack_limit}
use Rattle.state.proofs.Machine.stack_limit.Goals as goal

pub returns-then-pcstack-eq1 : goal.returns-then-pcstack-eq1
unfolding stack_limit pick
returns-then-pcstack-eq1 c = simp c.if-pcstack-eq1.true

pub returns-then-pcstack-eq0 : goal.returns-then-pcstack-eq0
unfolding stack_limit pick
returns-then-pcstack-eq0 c = simp c.if-pcstack-eq0.true

pub returns : goal.returns
unfolding stack_limit pick
returns c = simp (ne_eqb _ _ c.if-pcstack-eq1.false)
