-- `words::tables::limit_table` meets its contract. Assumes nothing.
use mathlib.Core.Path.{refl}
use Rattle.words.specs.Parts.{in_range}
use Rattle.words.specs.Codes.{part_at}
use Rattle.words.specs.Packed.{limit_of, limit_table}
use Rattle.words.proofs.tables.limit_table.Goals as goal

pub returns : goal.returns
unfolding limit_table limit_of in_range part_at
returns c = refl
