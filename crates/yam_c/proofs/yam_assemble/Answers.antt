-- `yam_c::yam_assemble` meets its contract. Assumes nothing.
use Rattle.yam_c.proofs.Calls.{assemble_passed, assemble_refused}
use Rattle.yam_c.proofs.yam_assemble.Goals as goal

pub returns-in-Ok : goal.returns-in-Ok
returns-in-Ok c = assemble_passed _ _ _ (rw c.config_from.ensures at c.assemble.ensures.answer) c.args.answers.now _ _ c.in-Ok.is c.answer_two.ensures

pub returns-in-Err : goal.returns-in-Err
returns-in-Err c = assemble_refused _ _ _ (rw c.config_from.ensures at c.assemble.ensures.answer) c.args.answers.now _ _ _ _ _ c.in-Err.is c.line.ensures c.unwrap_or.ensures c.number.ensures c.answer_two-in-Err.ensures
