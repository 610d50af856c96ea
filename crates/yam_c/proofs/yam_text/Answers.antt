-- `yam_c::yam_text` meets its contract. Assumes nothing.
use Rattle.yam_c.proofs.Calls.{text_passed, text_refused}
use Rattle.yam_c.proofs.yam_text.Goals as goal

pub returns-in-Ok : goal.returns-in-Ok
returns-in-Ok c = text_passed _ _ _ _ (rw c.config_from.ensures at c.text.ensures) c.args.answers.now _ _ c.in-Ok.is c.answer.ensures

pub returns-in-Err : goal.returns-in-Err
returns-in-Err c = text_refused _ _ _ _ (rw c.config_from.ensures at c.text.ensures) c.args.answers.now _ _ _ c.in-Err.is c.number.ensures c.answer-in-Err.ensures
