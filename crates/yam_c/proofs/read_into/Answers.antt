-- `yam_c::read_into` meets its contract. Assumes nothing.
use Rattle.yam_c.proofs.Words.{read_refused, read_misfit, read_word}
use Rattle.yam_c.proofs.read_into.Goals as goal

pub returns-then-instruction-ne-INSTRUCTION_WORDS : goal.returns-then-instruction-ne-INSTRUCTION_WORDS
returns-then-instruction-ne-INSTRUCTION_WORDS c = read_misfit _ _ _ c.in-Ok.is c.if-instruction-ne-INSTRUCTION_WORDS.true

pub returns-in-Err : goal.returns-in-Err
returns-in-Err c = read_refused _ _ _ _ c.in-Err.is c.number.ensures

pub returns-else-instruction-ne-INSTRUCTION_WORDS : goal.returns-else-instruction-ne-INSTRUCTION_WORDS
returns-else-instruction-ne-INSTRUCTION_WORDS c = read_word _ _ _ _ c.in-Ok.is c.if-instruction-ne-INSTRUCTION_WORDS.false c.instruction_into.ensures
