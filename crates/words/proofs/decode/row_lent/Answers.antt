-- `words::decode::row_lent` meets its contract. Assumes nothing.
use Rattle.words.specs.Packed.{number_lent}
use Rattle.words.proofs.decode.row_lent.Goals as goal

pub returns : goal.returns
unfolding number_lent
returns c = rw (c.row_of.ensures, c.named_at.ensures)
