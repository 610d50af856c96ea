-- `words::reader::Reader::row` meets its contract. Assumes nothing.
use Rattle.words.proofs.Statics.{classes}
use Rattle.words.proofs.reader.Reader.row.Goals as goal

pub returns : goal.returns
returns c = rw classes at c.row_lent.ensures
