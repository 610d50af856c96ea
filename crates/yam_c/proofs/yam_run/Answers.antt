-- `yam_c::yam_run` meets its contract. Assumes nothing.
use Rattle.yam_c.proofs.HandsOn.{run_hands_on}
use Rattle.yam_c.proofs.ComesBack.{comes_back_lists}
use Rattle.yam_c.proofs.Machines.{shaped_holds, machine_out}
use Rattle.yam_c.proofs.Calls.{run_misshapen}
use Rattle.yam_c.proofs.yam_run.Goals as goal

pub run_in_place-requires : goal.run_in_place-requires
run_in_place-requires c = shaped_holds c.args.machine.now _ c.machine_shaped.ensures c.if-machine_shaped.true

pub returns-then-machine_shaped : goal.returns-then-machine_shaped
returns-then-machine_shaped c = (rw c.config_from-c.ensures at c.run_in_place.ensures, run_hands_on, comes_back_lists)

pub returns : goal.returns
returns c = (run_misshapen _ c.args.machine.now _ _ _ _ c.args.answers.now _ _ (machine_out c.args.machine.now _ c.machine_shaped.ensures c.if-machine_shaped.false) (rw c.config_from-c.ensures at c.misshapen.ensures) c.args.budget c.answer_two.ensures, run_hands_on, comes_back_lists)
