-- `image::blocks::checksum_at` meets its contract. Assumes nothing.
use Rattle.std.proofs.Common.{◌≡◌, sym, ◌∙◌, arith}
use Rattle.image.proofs.blocks.Laws.{sum_start, sum_next, sum_end}
use Rattle.image.proofs.blocks.checksum_at.Goals as goal

pub loop-i-init : goal.loop-i-init
loop-i-init c = (omega arith, sum_start _ _ 127)

pub loop-i-preserved : goal.loop-i-preserved
loop-i-preserved c = (omega arith, rw c.word-sum.ensures (sum_next _ _ _ 127 _ (omega arith) ∙ c.loop-i.invariant.1))

pub returns : goal.returns
returns c = let e : c.loop-i.i ≡ 127 = omega arith in sym (sum_end _ _ 127 _ c.loop-i.invariant.0) ∙ (rw e at c.loop-i.invariant.1)
