-- `image::storing::put_words` meets its contract. Assumes nothing.
use Rattle.std.proofs.Common.{rules, ◌≡◌, ◌+◌, length, slice_index, sym, refl, ap, ◌∙◌, arith}
use lib.Seq.{length-sets}
use Rattle.image.proofs.storing.Laws.{put_start, put_next, put_end}
use Rattle.image.proofs.blocks.Laws.{sum_from, sum_next, sum_end}
use Rattle.image.proofs.storing.put_words.Goals as goal

pub loop-i-init : goal.loop-i-init
loop-i-init c = (refl, put_start _ _ _ _ _, omega (arith, c.ranges.sum.fits), sum_from _ _ _ _)

pub loop-i-preserved : goal.loop-i-preserved
loop-i-preserved c =
    let w : c.unwrap_or-w.result ≡ slice_index c.args.words.now (c.args.from + c.loop-i.i) = search rules in
    ((ap length c.put_word.ensures ∙ simp length-sets c.loop-i.invariant.0), rw (c.put_word.ensures, w) (put_next _ _ _ _ _ _ (omega arith) ∙ c.loop-i.invariant.1), omega arith, rw w (sum_next _ _ _ _ _ (omega arith) ∙ c.loop-i.invariant.3))

pub returns : goal.returns
returns c = let e : c.loop-i.i ≡ c.args.n = omega arith in record { bytes = sym (put_end _ _ _ _ _) ∙ (rw e at c.loop-i.invariant.1); added = sym (sum_end _ _ _ _ c.loop-i.invariant.2) ∙ (rw e at c.loop-i.invariant.3) }
