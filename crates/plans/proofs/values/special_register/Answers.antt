-- `plans::values::special_register` meets its contract. Assumes nothing.
use Rattle.std.proofs.Common.{◌∙◌}
use Rattle.plans.proofs.values.Laws.{special_inside, special_beyond}
use Rattle.plans.proofs.values.special_register.Goals as goal

pub returns-then-at-lt4 : goal.returns-then-at-lt4
returns-then-at-lt4 c = c.cut.ensures ∙ special_inside _ _ _ _ _ _ _ c.spr0_of-spr0.ensures c.spr1_of-spr1.ensures c.log2_of-spr2.ensures.0 c.wide-spr3.ensures c.if-at-lt4.true

pub returns : goal.returns
returns c = c.cut-2.ensures ∙ special_beyond _ _ _ c.if-at-lt4.false
