-- `image::blocks::word` meets its contract. Assumes nothing.
use Rattle.std.proofs.Common.{rules}
use Rattle.image.specs.File.{word_at}
use Rattle.image.proofs.blocks.word.Goals as goal

pub returns : goal.returns
unfolding word_at
returns c = search rules
