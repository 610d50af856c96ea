-- `plans::plans::port_read` meets its contract. Assumes nothing.
use Rattle.laws.specs.Choice.{pick}
use Rattle.std.proofs.Common.{sym, ◌∙◌, le-ltb, lt-ltb}
use Rattle.plans.proofs.plans.port_read.Goals as goal

pub returns-then-not-near : goal.returns-then-not-near
unfolding pick
returns-then-not-near c = rw (sym c.near.ensures ∙ c.if-not-near.true, c.stopped.ensures)

pub returns-then-inputs-t : goal.returns-then-inputs-t
unfolding pick
returns-then-inputs-t c = rw (sym c.near.ensures ∙ c.if-not-near.false, le-ltb _ _ c.if-inputs-t.true, c.stopped-then-inputs-t.ensures)

pub returns : goal.returns
unfolding pick
returns c = rw (sym c.near.ensures ∙ c.if-not-near.false, lt-ltb _ _ c.if-inputs-t.false, c.to_register.ensures, c.positioned.ensures, c.next.ensures, c.cut-x.ensures, c.wide.ensures)
