-- `assembler::forms::find` meets its contract. The loop's invariant: where a form claims the line, it is among those that are left. Assumes nothing.
use native.Mathlib.Omega.{arith}
use Rattle.assembler.proofs.Heads.{key_small, too_long, left_first, left_next, none_left, form_found}
use Rattle.assembler.proofs.forms.find.Goals as goal

pub head-q-requires : goal.head-q-requires
head-q-requires c = rw c.key_of.ensures (key_small _)

pub returns-then-n-gt-PATTERN : goal.returns-then-n-gt-PATTERN
returns-then-n-gt-PATTERN c = too_long _ _ _ c.requires c.if-n-gt-PATTERN.true

pub loop-q-init : goal.loop-q-init
loop-q-init c = left_first _ _ _ c.requires _ _ c.key_of.ensures c.head-q.ensures

pub returns-then-is_form : goal.returns-then-is_form
returns-then-is_form c = form_found _ _ _ c.requires _ _ c.loop-q.invariant (omega arith) c.is_form.ensures c.if-is_form.true

pub loop-q-smaller : goal.loop-q-smaller
loop-q-smaller c = (left_next _ _ _ c.requires _ _ _ c.loop-q.invariant (omega arith) c.is_form.ensures c.if-is_form.false c.link-q.ensures).1

pub loop-q-preserved : goal.loop-q-preserved
loop-q-preserved c = (left_next _ _ _ c.requires _ _ _ c.loop-q.invariant (omega arith) c.is_form.ensures c.if-is_form.false c.link-q.ensures).0

pub returns : goal.returns
returns c = none_left _ _ _ c.requires _ c.loop-q.invariant (omega arith)
