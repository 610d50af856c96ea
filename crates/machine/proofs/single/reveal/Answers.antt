-- `machine::single::reveal` meets its contract. Assumes nothing.
use mathlib.Core.Path.{sym, ap, ◌∙◌}
use Rattle.laws.specs.Choice.{pick}
use Rattle.state.specs.declared.Change.{Change}
use Rattle.machine.specs.Single.{passed_to, revealed, revealed_in}
use Rattle.machine.proofs.single.reveal.Goals as goal

pub returns-then-reveals : goal.returns-then-reveals
unfolding revealed revealed_in pick
returns-then-reveals c = (
  rw (sym c.reveals.ensures ∙ c.if-reveals.true) (c.passed.ensures ∙ ap (λ (y : Change). passed_to y.core) c.skip-y.ensures),
  rw (sym c.reveals.ensures ∙ c.if-reveals.true, ← c.destination.ensures.0, ← c.source.ensures.0, ← c.special_register.ensures),
)

pub returns : goal.returns
unfolding revealed revealed_in pick
returns c = (rw (sym c.reveals.ensures ∙ c.if-reveals.false) c.stopped.ensures, rw (sym c.reveals.ensures ∙ c.if-reveals.false))
