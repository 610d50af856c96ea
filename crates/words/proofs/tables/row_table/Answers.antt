-- `words::tables::row_table` meets its contract. Assumes nothing.
use Rattle.words.proofs.Statics.{packs}
use Rattle.words.proofs.tables.row_table.Goals as goal

pub returns : goal.returns
returns c = packs
