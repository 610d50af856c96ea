-- `words::encode::FieldsFromInstruction::from` meets its contract. Assumes nothing.
use mathlib.Core.Path.{refl}
use Rattle.words.specs.Words.{gather}
use Rattle.words.proofs.encode.FieldsFromInstruction.from.Goals as goal

pub returns : goal.returns
unfolding gather
returns c = λ _. refl
