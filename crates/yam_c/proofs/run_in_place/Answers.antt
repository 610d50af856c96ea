-- `yam_c::run_in_place` meets its contract. Assumes nothing.
use mathlib.Core.Path.{refl, ◌∙◌}
use Rattle.state.specs.State.{env}
use Rattle.yam_c.proofs.Machines.{stack_length}
use Rattle.yam_c.proofs.Calls.{run_placed}
use Rattle.yam_c.proofs.run_in_place.Goals as goal

pub returns : goal.returns
returns c = rw c.number.ensures (run_placed (env c.args.c c.args.image.now c.args.inputs.now) c.args.machine.now c.args.registers.now c.args.memory.now c.args.addresses.now c.args.values.now c.requires _ c.core_in-m.ensures _ _ c.args.answers.now _ c.args.budget _ c.run_lent-r.ensures (c.run_lent-r.auto.stack ∙ stack_length c.args.machine.now c.requires) refl c.update.ensures c.answer_two.ensures)
