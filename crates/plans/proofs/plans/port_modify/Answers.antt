-- `plans::plans::port_modify` meets its contract. Assumes nothing.
use Rattle.laws.specs.Choice.{pick}
use Rattle.std.proofs.Common.{sym, ◌∙◌, le-ltb, lt-ltb}
use Rattle.plans.proofs.plans.port_modify.Goals as goal

pub returns-then-not-near : goal.returns-then-not-near
unfolding pick
returns-then-not-near c = rw (sym c.near.ensures ∙ c.if-not-near.true, c.stopped.ensures)

pub returns-then-inputs-t : goal.returns-then-inputs-t
unfolding pick
returns-then-inputs-t c = rw (sym c.near.ensures ∙ c.if-not-near.false, le-ltb _ _ c.if-inputs-t.true, c.stopped-then-inputs-t.ensures)

pub returns-then-room-l : goal.returns-then-room-l
unfolding pick
returns-then-room-l c = rw (sym c.near.ensures ∙ c.if-not-near.false, lt-ltb _ _ c.if-inputs-t.false, le-ltb _ _ c.if-room-l.true, c.stopped-then-room-l.ensures)

pub returns : goal.returns
unfolding pick
returns c = rw (sym c.near.ensures ∙ c.if-not-near.false, lt-ltb _ _ c.if-inputs-t.false, lt-ltb _ _ c.if-room-l.false, c.change.ensures, c.posting.ensures, c.positioned.ensures, c.next.ensures, c.with_top_bit-y.ensures, c.cut-x.ensures, c.wide.ensures)
