-- `yam_c::fault_into` meets its contract. Assumes nothing.
use Rattle.yam_c.proofs.Calls.{check_unlawful, check_misfit, check_broken}
use Rattle.yam_c.proofs.fault_into.Goals as goal

pub returns-in-Unlawful : goal.returns-in-Unlawful
returns-in-Unlawful c = check_unlawful _ _ _ c.in-Unlawful.is c.answer_two.ensures

pub returns-in-WrongLength : goal.returns-in-WrongLength
returns-in-WrongLength c = check_misfit _ _ _ c.in-WrongLength.is c.answer_two-in-WrongLength.ensures

pub returns-in-Broken : goal.returns-in-Broken
returns-in-Broken c = check_broken _ _ _ _ _ _ c.in-Broken.is c.number.ensures c.answer_two-in-Broken.ensures
