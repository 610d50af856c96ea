-- `words::tables::class_table` meets its contract. Assumes nothing.
use Rattle.words.proofs.ClassesExact.{classes_exact}
use Rattle.words.proofs.Statics.{classes}
use Rattle.words.proofs.tables.class_table.Goals as goal

pub returns : goal.returns
returns c = (classes, classes_exact)
