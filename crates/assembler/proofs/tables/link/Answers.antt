-- `assembler::tables::link` meets its contract. Assumes nothing.
use Rattle.assembler.proofs.Statics.{link}
use Rattle.assembler.proofs.tables.link.Goals as goal

pub returns : goal.returns
returns c = link _
