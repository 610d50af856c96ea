-- `words::encode::word_from` meets its contract. Assumes nothing.
use mathlib.Core.Path.{refl}
use Rattle.words.specs.Words.{word_from}
use Rattle.words.proofs.encode.word_from.Goals as goal

pub returns : goal.returns
unfolding word_from
returns c = refl
