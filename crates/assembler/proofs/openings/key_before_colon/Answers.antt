-- `assembler::openings::key_before_colon` meets its contract. Assumes nothing.
use Rattle.assembler.proofs.openings.Laws.{key_there, key_missing}
use Rattle.assembler.proofs.openings.key_before_colon.Goals as goal

pub returns-then-byte_at-ne-COLON : goal.returns-then-byte_at-ne-COLON
returns-then-byte_at-ne-COLON c = key_missing _ _ _ c.requires c.byte_at.ensures c.if-byte_at-ne-COLON.true

pub returns : goal.returns
returns c = key_there _ _ _ _ c.requires c.byte_at.ensures c.if-byte_at-ne-COLON.false c.of.ensures
