-- `assembler::forms::read_by` meets its contract. Assumes nothing.
use Rattle.assembler.proofs.forms.Laws.{read_is}
use Rattle.assembler.proofs.forms.read_by.Goals as goal

pub returns : goal.returns
returns c = read_is _ _ _ _ _ _ _ _ c.form_byte-row.ensures c.form_byte-flag.ensures c.form_byte-number.ensures c.part_of-destination.ensures c.part_of-source.ensures c.part_of-value.ensures
