-- `words::decode::below_limits` meets its contract. Assumes nothing.
use Rattle.words.specs.Lookup.{below_lent}
use Rattle.words.proofs.decode.below_limits.Goals as goal

pub returns : goal.returns
unfolding below_lent
returns c = rw (c.at_or-2.ensures, c.at_or.ensures, c.at_or-t.ensures)
