-- `yam_c::yam_list` meets its contract. Assumes nothing.
use Rattle.yam_c.proofs.Calls.{list_passed, list_refused}
use Rattle.yam_c.proofs.yam_list.Goals as goal

pub returns-in-Ok : goal.returns-in-Ok
returns-in-Ok c = list_passed _ _ _ (rw c.config_from.ensures at c.list-r.ensures.answer) c.args.answers.now _ c.in-Ok.is c.answer_two.ensures

pub returns-in-Err : goal.returns-in-Err
returns-in-Err c = list_refused _ _ _ (rw c.config_from.ensures at c.list-r.ensures.answer) c.args.answers.now _ _ _ c.in-Err.is c.number.ensures c.answer_two.ensures
