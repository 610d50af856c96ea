-- `assembler::forms::admits_byte` meets its contract. Assumes nothing.
use Rattle.assembler.proofs.forms.Laws.{admits_is}
use Rattle.assembler.proofs.forms.admits_byte.Goals as goal

pub returns : goal.returns
returns c = admits_is _ _ _ c.is_hex.ensures
