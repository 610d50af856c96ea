-- A part that was read stands after what was read before it. Assumes nothing.
use Rattle.std.proofs.Common.{◌≡◌, ℕ, ◌+◌, ◌-◌, ◌≤◌, List, ◌++◌, Option, arith, length, take, slice_range, sym, ap, ◌∙◌, subst, le_refl, drop_at, length-take-le}
use Rattle.std.proofs.lemmas.Slice.{take-put_mid_below}
use Rattle.std.proofs.KnownBytes.{Consumes-trans}
use Rattle.std.specs.Io.KnownBytes.{Consumes}
use borrow.Rule.Slice.PartMut.{put_mid, post_of}
use lib.Seq.{take-add, take-append-le}

-- the part's first n bytes, where it lies
part_range : (a k n : ℕ) (xs part : List ℕ) → a ≤ length xs → n ≤ length part → take n part ≡ slice_range (put_mid a k xs part) a (a + n)
part_range a k n xs part within fits =
    let same : (a + n) - a ≡ n = omega arith in
    let after = post_of a k xs in
    sym (ap (take ((a + n) - a)) (drop_at (take a xs) (part ++ after) a (length-take-le a xs within)) ∙ ap (λ m. take m (part ++ after)) same ∙ take-append-le n part after fits)

joined : (a k n : ℕ) (xs part : List ℕ) → a ≤ length xs → n ≤ length part → take a xs ++ take n part ≡ take (a + n) (put_mid a k xs part)
joined a k n xs part within fits =
    let all = put_mid a k xs part in
    let front : take a all ≡ take a xs = take-put_mid_below _ _ _ _ _ (le_refl _) within in
    let same : a + ((a + n) - a) ≡ a + n = omega arith in
    ap (λ l. take a xs ++ l) (part_range a k n xs part within fits) ∙ ap (λ l. l ++ slice_range all a (a + n)) (sym front)
    ∙ sym (take-add a ((a + n) - a) all) ∙ ap (λ m. take m all) same

pub read_on : (x y z : Option (List ℕ)) (a k n : ℕ) (xs part : List ℕ) → a ≤ length xs → n ≤ length part → Consumes x y (take a xs) → Consumes y z (take n part) →
    Consumes x z (take (a + n) (put_mid a k xs part))
read_on x y z a k n xs part within fits before more = subst (Consumes x z) (joined a k n xs part within fits) (Consumes-trans x y z _ _ before more)
