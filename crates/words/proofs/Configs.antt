-- A data size by a count of its bits, as src/configuration.rt asks.
-- Assumes nothing.
use Prim.Native.Nat.{ℕ, ◌+◌, ◌*◌, ◌/◌, ◌%◌, ◌^◌, ◌<◌, ◌≤◌}
use mathlib.Core.Path.{◌≡◌, refl, sym, ap, ◌∙◌}
use mathlib.Core.Logic.{◌⊎◌, inl, inr}
use mathlib.Core.Bool.{Bool, true, false, not, ◌&&◌, ◌||◌}
use native.Mathlib.Omega.{arith}
use borrow.Author.Tests.{ltb-true, ltb-false, lt-leb, eqb-true, eqb-false}
use lib.Count.{ones, ones_in, ones_cat}
use Rattle.std.proofs.lemmas.Nat.{zero_from_ones}
use lib.Dec.{T, eqb, ltb, leb, leb→le, ltb→lt, eqb→eq}
use Rattle.laws.specs.Choice.{true_is}
use Rattle.laws.specs.Test.{member, member_holds, or_cases}
use Rattle.laws.specs.Lists.{all_at}
use Rattle.laws.specs.Table.{every, at_every}
use Rattle.words.specs.Configs.{data_sizes}
use Rattle.words.proofs.Checks.{alike, alike_is}

abbrev sized : ℕ → Bool
sized d = leb d 32768 && (not (eqb d 1) && leb (ones d) 1)

abbrev right : ℕ → Bool
right d = alike (sized d) (member d data_sizes)

-- d is 256·h + l. Where h or l is 0, it is looked at.

low_right : T (every 256 right)
unfolding ones ones_in
low_right = tt

high_right : T (every 129 (λ h. alike (leb (256 * h) 32768 && (not (eqb (256 * h) 1) && leb (ones h) 1)) (member (256 * h) data_sizes)))
unfolding ones ones_in
high_right = tt

no_ones : ones 0 ≡ 0
unfolding ones ones_in
no_ones = refl

ones_high : (h : ℕ) → ones (256 * h) ≡ ones h
ones_high h =
    let q : h * 2 ^ 8 + 0 ≡ 256 * h = omega arith in
    let s = ap ones (sym q) ∙ ones_cat 8 h 0 (omega arith) in
    omega (arith, s, no_ones)

-- Elsewhere each has a bit of its own, and no size is there.

positive : (n : ℕ) → (n ≡ 0 → ⊥) → 0 < n
positive n h = omega (arith, h)

has_bit : (n : ℕ) → 0 < n → 0 < ones n
has_bit n h = positive (ones n) (λ z. let e = zero_from_ones n z in omega (arith, e, h))

two_bits : (d : ℕ) → 0 < d % 256 → 256 ≤ d → 1 < ones d
two_bits d p g =
    let q : d / 256 * 2 ^ 8 + d % 256 ≡ d = omega arith in
    let s = ap ones (sym q) ∙ ones_cat 8 (d / 256) (d % 256) (omega arith) in
    let u = has_bit (d / 256) (omega (arith, g)) in
    let l = has_bit (d % 256) p in
    omega (arith, s, u, l)

no_last : (a b c : Bool) → c ≡ false → (a && (b && c)) ≡ false
no_last true true c p = p
no_last true false c p = refl
no_last false b c p = refl

no_size : (d : ℕ) (b : Bool) → 0 < d % 256 → 256 ≤ d → member d data_sizes ≡ b → b ≡ false
no_size d true p g e = absurd (go (or_cases (ltb d 256) (eqb (d % 256) 0) (all_at (λ v. ltb v 256 || eqb (v % 256) 0) data_sizes d tt (member_holds d data_sizes (true_is _ e)))))
  where
    go : T (ltb d 256) ⊎ T (eqb (d % 256) 0) → ⊥
    go (inl t) = let l = ltb→lt d 256 t in omega (arith, l, g)
    go (inr t) = let l = eqb→eq (d % 256) 0 t in omega (arith, l, p)
no_size d false p g e = refl

both_false : (a b : Bool) → a ≡ false → b ≡ false → T (alike a b)
both_false a b p q = rw (p, q) tt

at_high : (h : ℕ) → h < 129 → T (right (256 * h))
at_high h l = rw (ones_high h) (at_every 129 (λ h. alike (leb (256 * h) 32768 && (not (eqb (256 * h) 1) && leb (ones h) 1)) (member (256 * h) data_sizes)) h high_right l)

inside : (d : ℕ) → d ≤ 32768 → T (right d)
inside d h = go (eqb (d % 256) 0) refl (ltb d 256) refl
  where
    go : (b : Bool) → eqb (d % 256) 0 ≡ b → (c : Bool) → ltb d 256 ≡ c → T (right d)
    go true e c f =
        let z = eqb-true (d % 256) 0 e in
        let q : 256 * (d / 256) ≡ d = omega (arith, z) in
        rw q at (at_high (d / 256) (omega (arith, h)))
    go false e true f = at_every 256 right d low_right (ltb-true d 256 f)
    go false e false f =
        let z = eqb-false (d % 256) 0 e in
        let g = ltb-false d 256 f in
        let p : 0 < d % 256 = positive (d % 256) z in
        both_false (sized d) (member d data_sizes)
        (no_last (leb d 32768) (not (eqb d 1)) (leb (ones d) 1) (lt-leb (ones d) 1 (two_bits d p g)))
        (no_size d (member d data_sizes) p g refl)

-- no data size is above
outside : (d : ℕ) (b : Bool) → 32768 < d → member d data_sizes ≡ b → false ≡ b
outside d true h e =
    let m = member_holds d data_sizes (true_is _ e) in
    let l = leb→le d 32768 (all_at (λ v. leb v 32768) data_sizes d tt m) in
    absurd (omega (arith, h, l))
outside d false h e = refl

pub size_right : (d : ℕ) → sized d ≡ member d data_sizes
size_right d = go (ltb 32768 d) refl
  where
    go : (b : Bool) → ltb 32768 d ≡ b → sized d ≡ member d data_sizes
    go true e = let h = ltb-true 32768 d e in rw (lt-leb d 32768 h) (outside d (member d data_sizes) h refl)
    go false e = alike_is (sized d) (member d data_sizes) (inside d (ltb-false 32768 d e))
