-- `assembler::forms::key_of` meets its contract. Assumes nothing.
use Rattle.assembler.proofs.forms.Laws.{key_is}
use Rattle.assembler.proofs.forms.key_of.Goals as goal

pub returns : goal.returns
returns c = key_is _ _ _ _ _ _ _ _ _ c.byte_at-a.ensures c.byte_at-b.ensures c.byte_at-c.ensures c.byte_at-d.ensures c.byte_before.ensures c.byte_before-2.ensures c.mark_of-e.ensures.0 c.mark_of-f.ensures.0
