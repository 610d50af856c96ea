-- `assembler::bytes::name_length` meets its contract. Assumes nothing.
use mathlib.Core.Path.{◌∙◌}
use Rattle.assembler.proofs.bytes.Laws.{name_is}
use Rattle.assembler.proofs.bytes.name_length.Goals as goal

pub returns : goal.returns
returns c = c.unwrap_or.ensures ∙ name_is _ _ c.first_space.ensures
