-- `image::storing::head_words` meets its contract. Assumes nothing.
-- `image::storing::head_words` meets its contract. Assumes nothing.
use Rattle.std.proofs.Common.{rules}
use Rattle.image.specs.Storing.{head_of}
use Rattle.image.proofs.storing.head_words.Goals as goal

pub returns : goal.returns
unfolding head_of
returns c = search rules
