-- `words::tables::base_table` meets its contract. Assumes nothing.
use Rattle.words.proofs.Statics.{bases}
use Rattle.words.proofs.tables.base_table.Goals as goal

pub returns : goal.returns
returns c = bases
