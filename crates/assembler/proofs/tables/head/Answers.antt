-- `assembler::tables::head` meets its contract. Assumes nothing.
use Rattle.assembler.proofs.Statics.{head}
use Rattle.assembler.proofs.tables.head.Goals as goal

pub returns : goal.returns
returns c = head _
