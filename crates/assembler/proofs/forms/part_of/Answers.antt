-- `assembler::forms::part_of` meets its contract. Assumes nothing.
use Rattle.assembler.proofs.forms.Laws.{part_is}
use Rattle.assembler.proofs.forms.part_of.Goals as goal

pub returns : goal.returns
returns c = part_is c.args.k _ _ _ _ _ c.form_byte-place.ensures c.form_byte-width.ensures c.number_at.ensures
