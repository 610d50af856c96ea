-- `assembler::openings::body_start` meets its contract. Assumes nothing.
use Rattle.assembler.proofs.openings.Laws.{body_plain, body_behind, body_whole}
use Rattle.assembler.proofs.openings.body_start.Goals as goal

pub returns-then-is_none : goal.returns-then-is_none
returns-then-is_none c = body_plain _ c.args.o _ c.requires c.is_none.ensures c.if-is_none.true

pub returns-then-byte_at-eq-SPACE : goal.returns-then-byte_at-eq-SPACE
returns-then-byte_at-eq-SPACE c = body_behind _ c.args.o _ _ c.requires c.is_none.ensures c.if-is_none.false c.byte_at.ensures c.if-byte_at-eq-SPACE.true

pub returns : goal.returns
returns c = body_whole _ c.args.o _ _ c.requires c.is_none.ensures c.if-is_none.false c.byte_at.ensures c.if-byte_at-eq-SPACE.false
