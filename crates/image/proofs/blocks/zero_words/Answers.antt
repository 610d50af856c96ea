-- `image::blocks::zero_words` meets its contract. Assumes nothing.
use Rattle.std.proofs.Common.{sym, ◌∙◌, arith}
use Rattle.image.proofs.blocks.Laws.{zero_start, not_zero, zero_next, zero_none}
use Rattle.image.proofs.blocks.zero_words.Goals as goal

pub loop-i-init : goal.loop-i-init
loop-i-init c = zero_start _ _ _

pub returns-then-word-ne0 : goal.returns-then-word-ne0
returns-then-word-ne0 c = not_zero _ _ _ _ (omega arith) (λ e. c.if-word-ne0.true (c.word.ensures ∙ e)) ∙ c.loop-i.invariant

pub loop-i-preserved : goal.loop-i-preserved
loop-i-preserved c = zero_next _ _ _ _ (omega arith) (sym c.word.ensures ∙ c.if-word-ne0.false) ∙ c.loop-i.invariant

pub returns : goal.returns
returns c = zero_none _ _ _ _ (omega arith) ∙ c.loop-i.invariant
