-- `assembler::labels::cap` meets its contract. Assumes nothing.
use Rattle.assembler.proofs.labels.Laws.{capped_is}
use Rattle.assembler.proofs.labels.cap.Goals as goal

pub returns : goal.returns
returns c = capped_is _ _ c.min.ensures
