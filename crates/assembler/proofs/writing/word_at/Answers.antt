-- `assembler::writing::word_at` meets its contract. Assumes nothing.
use Rattle.assembler.proofs.writing.Laws.{plain_found, plain_unread, plain_part}
use Rattle.assembler.proofs.writing.word_at.Goals as goal

pub write_target-requires : goal.write_target-requires
write_target-requires c = plain_unread c.args.writer.now.config c.args.labels.now c.args.text.now c.args.at c.args.end c.requires.0 c.requires.1 _ c.read_plain.ensures c.in_default.is

pub returns-in_default : goal.returns-in_default
returns-in_default c = plain_part _ _ _ _ _ c.requires.0 c.requires.1 _ c.read_plain.ensures _ c.write_target.ensures

pub returns : goal.returns
returns c = plain_found _ _ _ _ _ c.requires.0 c.requires.1 _ c.read_plain.ensures _ _ c.in-Some.is c.write.ensures
