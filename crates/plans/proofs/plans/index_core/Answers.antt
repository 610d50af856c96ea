-- `plans::plans::index_core` meets its contract. Assumes nothing.
use Rattle.laws.specs.Choice.{pick}
use Rattle.std.proofs.Common.{eq-eqb, ne_eqb}
use Rattle.plans.specs.Values.{up, further}
use Rattle.plans.proofs.plans.index_core.Goals as goal

pub returns-then-x-c : goal.returns-then-x-c
unfolding up further pick
returns-then-x-c c = simp (c.flagged.ensures, c.indexed.ensures, c.next.ensures, c.one-equal.ensures.0, eq-eqb _ _ c.if-x-c.true)

pub returns : goal.returns
unfolding up further pick
returns c = simp (c.flagged-2.ensures, c.indexed-2.ensures, c.next-2.ensures, c.one-equal.ensures.0, ne_eqb _ _ c.if-x-c.false)
