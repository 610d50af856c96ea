-- `machine::stepping::step` meets its contract. Assumes nothing.
use mathlib.Core.Path.{◌≡◌}
use lib.ListN.{length}
use borrow.Author.Rules.{rules}
use Rattle.std.proofs.lemmas.Result.{err_from_is_err_and}
use Rattle.state.proofs.DoubleSteps.{double_steps}
use Rattle.state.specs.State.{state}
use Rattle.machine.proofs.Numbers.{some_number}
use Rattle.machine.proofs.Claims.{refused_on_copy}
use Rattle.machine.proofs.stepping.step.Goals as goal

pub returns-in_err-s-clause-double_steps : goal.returns-in_err-s-clause-double_steps
returns-in_err-s-clause-double_steps c = double_steps

pub returns-clause-double_steps : goal.returns-clause-double_steps
returns-clause-double_steps c = double_steps

pub returns-in_err-s-clause-answer : goal.returns-in_err-s-clause-answer
returns-in_err-s-clause-answer c =
    let p = err_from_is_err_and c.from_residual.result c.from_residual.ensures.1 in
    let h : length c.args.m.stack ≡ 63 = search rules in
    rw (p.1, p.2) (refused_on_copy _ _ _ (state c.args.m.core c.step_lent.new.stack c.step_lent.new.registers c.step_lent.new.memory c.step_lent.new.addresses c.step_lent.new.values) (some_number c.in_err-s.field-0.0) (c.in_err-s.ensures.fits h))
