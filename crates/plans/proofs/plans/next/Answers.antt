-- `plans::plans::next` meets its contract. Assumes nothing.
use Rattle.plans.specs.Values.{up}
use Rattle.plans.proofs.plans.next.Goals as goal

pub returns : goal.returns
unfolding up
returns c = rw c.go.ensures
