-- `words::entries::entry_table` meets its contract. Assumes nothing.
use Rattle.words.proofs.Statics.{entry_list}
use Rattle.words.proofs.entries.entry_table.Goals as goal

pub returns : goal.returns
returns c = entry_list
