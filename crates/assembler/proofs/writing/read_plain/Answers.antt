-- `assembler::writing::read_plain` meets its contract. Assumes nothing.
use Rattle.assembler.proofs.writing.Laws.{reads_far}
use Rattle.assembler.proofs.writing.read_plain.Goals as goal

pub returns-then-is_beyond : goal.returns-then-is_beyond
returns-then-is_beyond c = reads_far _ _ _ 4 _ c.requires c.if-n-gt-FIFTH.true c.is_beyond.ensures c.if-is_beyond.true
