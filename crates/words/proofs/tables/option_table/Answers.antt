-- `words::tables::option_table` meets its contract. Assumes nothing.
use mathlib.Core.Path.{refl}
use Rattle.words.specs.Parts.{available}
use Rattle.words.specs.Codes.{option_at}
use Rattle.words.specs.Packed.{option_table}
use Rattle.words.proofs.tables.option_table.Goals as goal

pub returns : goal.returns
unfolding option_table available option_at
returns c = refl
