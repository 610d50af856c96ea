-- `words::rows::pick` meets its contract. Assumes nothing.
use Rattle.laws.specs.Choice.{pick}
use Rattle.words.proofs.rows.pick.Goals as goal

pub returns-then-b : goal.returns-then-b
unfolding pick
returns-then-b g c = rw c.if-b.true

pub returns-else-b : goal.returns-else-b
unfolding pick
returns-else-b g c = rw c.if-b.false
