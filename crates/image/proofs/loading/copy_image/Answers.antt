-- `image::loading::copy_image` meets its contract. Assumes nothing.
use Rattle.std.proofs.Common.{length, sym, refl, ap, ◌∙◌, arith}
use lib.Seq.{length-sets}
use Rattle.image.proofs.loading.Laws.{block_next, blocks_start, blocks_end}
use Rattle.image.proofs.loading.copy_image.Goals as goal

pub loop-b-init : goal.loop-b-init
loop-b-init c = (refl, blocks_start _ _ _)

pub loop-b-preserved : goal.loop-b-preserved
loop-b-preserved c = ((ap length c.copy_words.ensures ∙ simp length-sets c.loop-b.invariant.0), rw c.copy_words.ensures (block_next _ _ _ _ _ (omega arith) (omega arith) (omega arith) ∙ c.loop-b.invariant.1))

pub returns : goal.returns
returns c = sym (blocks_end _ _ _ _ (omega (arith, c.blocks_for-b-end.ensures))) ∙ c.loop-b.invariant.1
