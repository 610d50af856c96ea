-- `words::entries::upper_limits` meets its contract. Assumes nothing.
use Rattle.laws.specs.Choice.{pick}
use Rattle.words.specs.Lookup.{uppers}
use Rattle.words.proofs.entries.upper_limits.Goals as goal

pub returns : goal.returns
unfolding uppers pick
returns c = c.limits.ensures
