-- `yam_pack::pack_words` meets its contract. Assumes nothing.
use native.Mathlib.Omega.{arith}
use mathlib.Core.Path.{sym}
use lib.Seq.{length-take-le}
use Rattle.std.proofs.lemmas.Result.{err_from_is_err_and}
use Rattle.yam_pack.proofs.Packing.{passed, packs_refused, packs_stored, packs_file}
use Rattle.yam_pack.proofs.pack_words.Goals as goal

pub returns-in_err-check : goal.returns-in_err-check
returns-in_err-check c =
    let p = err_from_is_err_and c.from_residual.result c.from_residual.ensures.1 in
    rw (p.1, p.2) (packs_refused _ _ _ _ _ c.in_err-check.ensures)

pub file_size-size-requires : goal.file_size-size-requires
file_size-size-requires c = let q = passed c.args.c c.args.n (sym c.in_ok-check.ensures) in q.2

pub slice_bounds-store-end : goal.slice_bounds-store-end
slice_bounds-store-end c = let q = passed c.args.c c.args.n (sym c.in_ok-check.ensures) in let h = q.2 in let b = c.requires.0 in sym (length-take-le _ _ (omega arith))

pub returns-in_err-store : goal.returns-in_err-store
returns-in_err-store c = absurd (packs_stored _ _ _ c.args.page.now _ _ c.in_ok-check.ensures c.requires.0 c.requires.1 c.file_size-size.ensures _ c.in_err-store.ensures)

pub returns : goal.returns
returns c = packs_file _ _ _ c.args.page.now _ _ c.in_ok-check.ensures c.requires.0 c.requires.1 c.file_size-size.ensures _ c.in_ok-store.ensures
