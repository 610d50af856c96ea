-- `image::storing::put_image` meets its contract. Assumes nothing.
use Rattle.std.proofs.Common.{◌≡◌, length, sym, refl, ap, ◌∙◌, arith}
use lib.Seq.{length-sets}
use Rattle.image.proofs.storing.Laws.{image_start, image_next, image_end}
use Rattle.image.proofs.storing.put_image.Goals as goal

pub loop-b-init : goal.loop-b-init
loop-b-init c = (refl, image_start _ _ _)

pub loop-b-preserved : goal.loop-b-preserved
loop-b-preserved c = ((ap length c.put_block.ensures ∙ simp length-sets c.loop-b.invariant.0), rw c.put_block.ensures (image_next _ _ _ _ (omega arith) ∙ c.loop-b.invariant.1))

pub returns : goal.returns
returns c = let e : c.loop-b.b ≡ c.args.n = omega arith in sym (image_end _ _ _ _ _ _) ∙ (rw e at c.loop-b.invariant.1)
