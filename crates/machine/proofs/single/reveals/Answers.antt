-- `machine::single::reveals` meets its contract. Assumes nothing.
use Rattle.machine.specs.Single.{reveals}
use Rattle.machine.proofs.single.reveals.Goals as goal

pub returns : goal.returns
unfolding reveals
returns c = rw (c.action.ensures, c.source-s.ensures.0)
