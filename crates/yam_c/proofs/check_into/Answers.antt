-- `yam_c::check_into` meets its contract. Assumes nothing.
use Rattle.yam_c.proofs.Calls.{check_passed}
use Rattle.yam_c.proofs.check_into.Goals as goal

pub returns-in-Ok : goal.returns-in-Ok
returns-in-Ok c = check_passed _ _ _ _ c.in-Ok.is c.answer_two.ensures

pub returns-in-Err : goal.returns-in-Err
returns-in-Err c = rw c.in-Err.is c.fault_into.ensures
