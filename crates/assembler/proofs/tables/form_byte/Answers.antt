-- `assembler::tables::form_byte` meets its contract. Assumes nothing.
use Rattle.assembler.proofs.Statics.{form_byte}
use Rattle.assembler.proofs.tables.form_byte.Goals as goal

pub returns : goal.returns
returns c = form_byte _
