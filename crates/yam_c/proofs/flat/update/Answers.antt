-- `yam_c::flat::update` meets its contract. Assumes nothing.
use Rattle.laws.specs.Choice.{pick}
use Rattle.yam_c.proofs.flat.update.Goals as goal

pub returns-then-changed : goal.returns-then-changed
unfolding pick
returns-then-changed c = rw (c.if-changed.true, c.put.ensures, c.store.ensures, c.core_words-core.ensures)

pub returns-else-changed : goal.returns-else-changed
unfolding pick
returns-else-changed c = rw c.if-changed.false
