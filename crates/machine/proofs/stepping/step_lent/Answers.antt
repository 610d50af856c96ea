-- `machine::stepping::step_lent` meets its contract. Assumes nothing.
use mathlib.Core.Path.{refl, sym, ◌∙◌}
use Rattle.std.proofs.lemmas.Result.{err_from_is_err_and}
use Rattle.state.specs.State.{env, state}
use Rattle.state.proofs.Ranges.{accepted}
use Rattle.state.proofs.Calls.{step_refused, step_taken}
use Rattle.machine.proofs.Numbers.{some_number}
use Rattle.machine.proofs.stepping.Laws.{step_named, passed_step, stopped_step}
use Rattle.machine.proofs.Claims.{steps_fit, steps_misfit}
use Rattle.machine.proofs.stepping.step_lent.Goals as goal

pub returns-then-stack-ne-STACK_CELLS : goal.returns-then-stack-ne-STACK_CELLS
returns-then-stack-ne-STACK_CELLS c = steps_misfit (env c.args.c c.args.image.now c.args.inputs.now) (state c.args.core c.args.stack.now c.args.registers.now c.args.memory.now c.args.addresses.now c.args.values.now) c.if-stack-ne-STACK_CELLS.true

pub returns-in_err-validate : goal.returns-in_err-validate
returns-in_err-validate c =
    let p = err_from_is_err_and c.from_residual.result c.from_residual.ensures.1 in
    rw p.1 (steps_fit (env c.args.c c.args.image.now c.args.inputs.now) (state c.args.core c.args.stack.now c.args.registers.now c.args.memory.now c.args.addresses.now c.args.values.now) _ c.if-stack-ne-STACK_CELLS.false (step_refused (env c.args.c c.args.image.now c.args.inputs.now) (state c.args.core c.args.stack.now c.args.registers.now c.args.memory.now c.args.addresses.now c.args.values.now) _ (p.2 ∙ c.in_err-validate.ensures) (some_number p.0)))

pub once-t-requires : goal.once-t-requires
once-t-requires c = (c.if-stack-ne-STACK_CELLS.false, accepted _ _ (sym c.in_ok-validate.ensures))

pub returns-in-Some : goal.returns-in-Some
returns-in-Some c = steps_fit (env c.args.c c.args.image.now c.args.inputs.now) (state c.args.core c.args.stack.now c.args.registers.now c.args.memory.now c.args.addresses.now c.args.values.now) _ c.if-stack-ne-STACK_CELLS.false
    (stopped_step (env c.args.c c.args.image.now c.args.inputs.now) (state c.args.core c.args.stack.now c.args.registers.now c.args.memory.now c.args.addresses.now c.args.values.now) _ c.once-t.ensures _ (c.in-Some.ensures (step_named (env c.args.c c.args.image.now c.args.inputs.now) (state c.args.core c.args.stack.now c.args.registers.now c.args.memory.now c.args.addresses.now c.args.values.now) _ c.once-t.ensures)) (some_number c.in-Some.stop) ∙
    step_taken (env c.args.c c.args.image.now c.args.inputs.now) (state c.args.core c.args.stack.now c.args.registers.now c.args.memory.now c.args.addresses.now c.args.values.now) 0 c.in_ok-validate.ensures refl)

pub returns : goal.returns
returns c = steps_fit (env c.args.c c.args.image.now c.args.inputs.now) (state c.args.core c.args.stack.now c.args.registers.now c.args.memory.now c.args.addresses.now c.args.values.now) _ c.if-stack-ne-STACK_CELLS.false
    (passed_step (env c.args.c c.args.image.now c.args.inputs.now) (state c.args.core c.args.stack.now c.args.registers.now c.args.memory.now c.args.addresses.now c.args.values.now) _ c.once-t.ensures (c.in_default.ensures (step_named (env c.args.c c.args.image.now c.args.inputs.now) (state c.args.core c.args.stack.now c.args.registers.now c.args.memory.now c.args.addresses.now c.args.values.now) _ c.once-t.ensures)) ∙ step_taken (env c.args.c c.args.image.now c.args.inputs.now) (state c.args.core c.args.stack.now c.args.registers.now c.args.memory.now c.args.addresses.now c.args.values.now) 0 c.in_ok-validate.ensures refl)
