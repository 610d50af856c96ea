-- `image::loading::copy_words` meets its contract. Assumes nothing.
use Rattle.std.proofs.Common.{◌≡◌, sym, refl, ◌∙◌, arith, length-set}
use Rattle.image.proofs.loading.Laws.{copy_start, copy_next, copy_end}
use Rattle.image.proofs.loading.copy_words.Goals as goal

pub loop-i-init : goal.loop-i-init
loop-i-init c = (refl, copy_start _ _ _ _ _)

pub loop-i-preserved : goal.loop-i-preserved
loop-i-preserved c = (simp length-set c.loop-i.invariant.0, rw c.word.ensures (copy_next _ _ _ _ _ _ (omega arith) ∙ c.loop-i.invariant.1))

pub returns : goal.returns
returns c = let e : c.loop-i.i ≡ c.args.n = omega arith in sym (copy_end _ _ _ _ _) ∙ (rw e at c.loop-i.invariant.1)
