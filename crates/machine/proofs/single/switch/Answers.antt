-- `machine::single::switch` meets its contract. Assumes nothing.
use mathlib.Core.Path.{ap, ◌∙◌}
use borrow.Author.Tests.{eq-eqb, ne_eqb}
use Rattle.laws.specs.Choice.{pick}
use Rattle.state.specs.declared.Change.{Change}
use Rattle.machine.specs.Single.{passed_to, switched}
use Rattle.machine.proofs.single.switch.Goals as goal

pub returns-then-n-eq-TURNS_OFF : goal.returns-then-n-eq-TURNS_OFF
unfolding switched pick
returns-then-n-eq-TURNS_OFF c = rw (eq-eqb _ _ c.if-n-eq-TURNS_OFF.true) (c.passed.ensures ∙ ap (λ (y : Change). passed_to y.core) c.leave_special-x.ensures)

pub returns-then-m-eq0 : goal.returns-then-m-eq0
unfolding switched pick
returns-then-m-eq0 c = rw (ne_eqb _ _ c.if-n-eq-TURNS_OFF.false, eq-eqb _ _ c.if-n-eq-TURNS_ON.true, eq-eqb _ _ c.if-m-eq0.true) (c.passed-then-m-eq0.ensures ∙ ap (λ (y : Change). passed_to y.core) c.enter_special-x.ensures)

pub returns-then-n-eq-TURNS_ON : goal.returns-then-n-eq-TURNS_ON
unfolding switched pick
returns-then-n-eq-TURNS_ON c = rw (ne_eqb _ _ c.if-n-eq-TURNS_OFF.false, eq-eqb _ _ c.if-n-eq-TURNS_ON.true, ne_eqb _ _ c.if-m-eq0.false) c.stopped.ensures

pub returns : goal.returns
unfolding switched pick
returns c = rw (ne_eqb _ _ c.if-n-eq-TURNS_OFF.false, ne_eqb _ _ c.if-n-eq-TURNS_ON.false) c.stopped-2.ensures
