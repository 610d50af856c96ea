-- `words::reader::Reader::parts` meets its contract. Assumes nothing.
use Rattle.words.proofs.Statics.{bases, packs}
use Rattle.words.proofs.reader.Reader.parts.Goals as goal

pub returns : goal.returns
returns c = rw (bases, packs) at c.parts_lent.ensures
