-- `words::entries::lower_limits` meets its contract. Assumes nothing.
use Rattle.laws.specs.Choice.{pick}
use Rattle.words.specs.Lookup.{lowers}
use Rattle.words.proofs.entries.lower_limits.Goals as goal

pub returns : goal.returns
unfolding lowers pick
returns c = c.limits.ensures
