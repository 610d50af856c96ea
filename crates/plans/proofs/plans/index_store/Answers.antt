-- `plans::plans::index_store` meets its contract. Assumes nothing.
use Rattle.laws.specs.Choice.{pick}
use Rattle.std.proofs.Common.{le-ltb, lt-ltb, eq-eqb, ne_eqb}
use Rattle.plans.proofs.plans.index_store.Goals as goal

pub returns-then-m-eq0 : goal.returns-then-m-eq0
unfolding pick
returns-then-m-eq0 c = rw (eq-eqb _ _ c.if-m-eq0.true, c.stopped.ensures)

pub returns-then-t-c : goal.returns-then-t-c
unfolding pick
returns-then-t-c c = rw (ne_eqb _ _ c.if-m-eq0.false, lt-ltb _ _ c.if-t-c.true, c.to_memory.ensures, c.index_core.ensures)

pub returns : goal.returns
unfolding pick
returns c = rw (ne_eqb _ _ c.if-m-eq0.false, le-ltb _ _ c.if-t-c.false, c.stopped-2.ensures)
