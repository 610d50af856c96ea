-- `yam_c::write_into` meets its contract. Assumes nothing.
-- `yam_c::write_into` meets its contract. Assumes nothing.
use Rattle.yam_c.proofs.Words.{write_refused, written_word}
use Rattle.yam_c.proofs.write_into.Goals as goal

pub returns-in-Err : goal.returns-in-Err
returns-in-Err c = write_refused _ _ _ _ _ c.in-Err.is c.number.ensures c.answer.ensures

pub returns-in-Ok : goal.returns-in-Ok
returns-in-Ok c = written_word _ _ _ _ c.in-Ok.is c.answer-in-Ok.ensures
