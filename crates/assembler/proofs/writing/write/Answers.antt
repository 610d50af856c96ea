-- `assembler::writing::write` meets its contract. Assumes nothing.
use Rattle.assembler.proofs.writing.Laws.{wrote, refused}
use Rattle.assembler.proofs.writing.write.Goals as goal

pub returns-in_err-write : goal.returns-in_err-write
returns-in_err-write c = refused _ _ _ _ c.in_err-write.was c.from_residual.ensures.1 c.write.ensures

pub returns : goal.returns
returns c = wrote _ _ _ c.in_ok-write.was c.write.ensures
