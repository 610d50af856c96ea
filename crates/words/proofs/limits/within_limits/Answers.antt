-- `words::limits::within_limits` meets its contract. Assumes nothing.
use Rattle.words.specs.Lookup.{within_limits}
use Rattle.words.proofs.limits.within_limits.Goals as goal

pub returns : goal.returns
unfolding within_limits
returns c = rw (c.limits_at-l.ensures.0, c.limits_at-l.ensures.1)
