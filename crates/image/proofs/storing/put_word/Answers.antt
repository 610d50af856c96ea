-- `image::storing::put_word` meets its contract. Assumes nothing.
use Rattle.std.proofs.Common.{rules}
use Rattle.image.specs.Storing.{bytes_of}
use Rattle.image.proofs.storing.put_word.Goals as goal

pub returns : goal.returns
unfolding bytes_of
returns c = search rules
