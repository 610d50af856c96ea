-- `words::decode::InstructionFromFields::from` meets its contract. Assumes nothing.
use mathlib.Core.Path.{refl}
use Rattle.words.specs.Words.{spread}
use Rattle.words.proofs.decode.InstructionFromFields.from.Goals as goal

pub returns : goal.returns
unfolding spread
returns c = λ _. refl
