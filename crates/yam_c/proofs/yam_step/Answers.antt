-- `yam_c::yam_step` meets its contract. Assumes nothing.
use Rattle.yam_c.proofs.HandsOn.{step_hands_on}
use Rattle.yam_c.proofs.ComesBack.{comes_back_lists}
use Rattle.yam_c.proofs.DoubleSteps.{double_steps_lists}
use Rattle.yam_c.proofs.Machines.{shaped_holds, machine_out}
use Rattle.yam_c.proofs.Calls.{step_misshapen}
use Rattle.yam_c.proofs.yam_step.Goals as goal

pub step_in_place-requires : goal.step_in_place-requires
step_in_place-requires c = shaped_holds c.args.machine.now _ c.machine_shaped.ensures c.if-machine_shaped.true

pub returns-then-machine_shaped : goal.returns-then-machine_shaped
returns-then-machine_shaped c =
    record { answer = (rw c.config_from-c.ensures at c.step_in_place.ensures, step_hands_on, comes_back_lists); double_steps = double_steps_lists }

pub returns : goal.returns
returns c =
    record { answer = (step_misshapen _ c.args.machine.now _ _ _ _ c.args.answers.now _ _ (machine_out c.args.machine.now _ c.machine_shaped.ensures c.if-machine_shaped.false) (rw c.config_from-c.ensures at c.misshapen.ensures) c.answer.ensures, step_hands_on, comes_back_lists); double_steps = double_steps_lists }
