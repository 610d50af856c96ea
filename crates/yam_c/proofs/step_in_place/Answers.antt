-- `yam_c::step_in_place` meets its contract. Assumes nothing.
use mathlib.Core.Path.{refl, ◌∙◌}
use Rattle.state.specs.State.{env}
use Rattle.machine.proofs.Numbers.{some_number}
use Rattle.yam_c.proofs.Machines.{stack_length}
use Rattle.yam_c.proofs.Calls.{step_placed, kept}
use Rattle.yam_c.proofs.step_in_place.Goals as goal

pub returns-in-Ok : goal.returns-in-Ok
returns-in-Ok c = step_placed (env c.args.c c.args.image.now c.args.inputs.now) c.args.machine.now c.args.registers.now c.args.memory.now c.args.addresses.now c.args.values.now c.requires _ c.core_in-m.ensures _ _ c.args.answers.now _ _ c.in-Ok.ensures (c.step_lent.auto.stack ∙ stack_length c.args.machine.now c.requires) refl c.update.ensures c.answer.ensures

pub returns-in-Err : goal.returns-in-Err
returns-in-Err c = rw c.number.ensures (step_placed (env c.args.c c.args.image.now c.args.inputs.now) c.args.machine.now c.args.registers.now c.args.memory.now c.args.addresses.now c.args.values.now c.requires _ c.core_in-m.ensures _ _ c.args.answers.now _ _ c.in-Err.ensures (c.step_lent.auto.stack ∙ stack_length c.args.machine.now c.requires) refl (kept _ _ _ (some_number c.in-Err.stop)) c.answer-in-Err.ensures)
