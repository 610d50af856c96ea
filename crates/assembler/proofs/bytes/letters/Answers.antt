-- `assembler::bytes::letters` meets its contract. Assumes nothing.
use Rattle.assembler.proofs.bytes.Laws.{letters_are}
use Rattle.assembler.proofs.bytes.letters.Goals as goal

pub returns : goal.returns
returns c = letters_are _ _ _ c.letters_end.ensures c.unwrap_or-end.ensures
