-- The cells of a record and its memories, tested by their joined bits and part by part. Assumes nothing.
use Prim.Native.Nat.{ℕ, zero, suc, ◌+◌, ◌-◌, ◌^◌, ◌≤◌, ◌<◌}
use mathlib.Core.Path.{◌≡◌, refl, sym, ◌∙◌}
use mathlib.Core.Bool.{Bool, true, false, ◌&&◌, and_assoc, and-true, and-false}
use mathlib.Core.List.{List, [], ◌∷◌}
use native.Mathlib.Nat.{lt_of_lt_of_le}
use native.Mathlib.Omega.{arith}
use borrow.Author.Tests.{lt-ltb, ltb-true}
use lib.Bits.{bit_or}
use lib.Dec.{ltb, eqb}
use lib.ListN.{length, get_or, take, drop, drop_of_length-le, length-drop}
use lib.Seq.{take_all}
use Rattle.laws.specs.Test.{below}
use Rattle.guards.specs.Joins.{join_of}
use Rattle.guards.proofs.Joins.{or_below, join_below, join_zero}

-- what is below a lower bound is below a higher one
cell_less : (b x : ℕ) (p q : Bool) → 1 ≤ b → (p && q) ≡ q → ((ltb x b && p) && (ltb x 1 && q)) ≡ (ltb x 1 && q)
cell_less b x p q h e = go (ltb x 1) refl
  where
    go : (r : Bool) → ltb x 1 ≡ r → ((ltb x b && p) && (r && q)) ≡ (r && q)
    go true k = rw (lt-ltb x b (lt_of_lt_of_le (ltb-true x 1 k) h)) e
    go false k = and-false (ltb x b && p)

below_less : (b : ℕ) (xs : List ℕ) → 1 ≤ b → (below b xs && below 1 xs) ≡ below 1 xs
below_less b [] h = refl
below_less b (x ∷ xs) h = cell_less b x (below b xs) (below 1 xs) h (below_less b xs h)

-- a list that is cut: below one bound up to the cut, below a lower one from there on
pub below_cut : (b : ℕ) (n : ℕ) (xs : List ℕ) → 1 ≤ b → (below b (take n xs) && below 1 (drop n xs)) ≡ (below b xs && below 1 (drop n xs))
below_cut b zero xs h = sym (below_less b xs h)
below_cut b (suc n) [] h = refl
below_cut b (suc n) (x ∷ xs) h =
    and_assoc (ltb x b) (below b (take n xs)) (below 1 (drop n xs)) ∙ rw (below_cut b n xs h) (sym (and_assoc (ltb x b) (below b xs) (below 1 (drop n xs))))

-- nothing stands from beyond the end on
pub below_short : (b : ℕ) (n : ℕ) (xs : List ℕ) → length xs < n → below b xs ≡ (below b xs && below 1 (drop n xs))
below_short b n xs h = rw (drop_of_length-le xs {i = n} (omega arith)) (sym (and-true (below b xs)))

-- every number of a list that is known cell by cell to be below a bound
pub below_all : (b : ℕ) (xs : List ℕ) → ((i : ℕ) → get_or xs i 0 < b) → true ≡ below b xs
below_all b [] h = refl
below_all b (x ∷ xs) h = rw (lt-ltb x b (h 0)) (below_all b xs (λ i. h (suc i)))

-- the return stack, by its part below the cut and the joined bits of the part above it
pub stack_cut : (most n r : ℕ) (xs : List ℕ) (p : Bool) → p ≡ below (most + 1) (take n xs) → r ≡ join_of (take (length xs - n) (drop n xs)) →
    (p && eqb r 0) ≡ (below (most + 1) xs && below 1 (drop n xs))
stack_cut most n r xs p q e =
    let rest : take (length xs - n) (drop n xs) ≡ drop n xs = take_all (length xs - n) (drop n xs) (simp length-drop (omega arith)) in
    rw (q, e, rest, join_zero (drop n xs)) (below_cut (most + 1) n xs (omega arith))

-- the words of both memories: at W = 32 every cell is below 2^32
pub words_all : (w top : ℕ) (xs ys : List ℕ) → top ≡ 2 ^ w → 4294967296 ≤ top → ((i : ℕ) → get_or xs i 0 < 2 ^ 32) → ((i : ℕ) → get_or ys i 0 < 2 ^ 32) →
    true ≡ (below (2 ^ w) xs && below (2 ^ w) ys)
words_all w top xs ys e m f g =
    let h : 2 ^ 32 ≤ 2 ^ w = rw e at m in
    rw (← below_all (2 ^ w) xs (λ i. lt_of_lt_of_le (f i) h), ← below_all (2 ^ w) ys (λ i. lt_of_lt_of_le (g i) h))

pub words_joined : (w top a b : ℕ) (xs ys : List ℕ) → top ≡ 2 ^ w → a ≡ join_of xs → b ≡ join_of ys →
    ltb (bit_or a b) top ≡ (below (2 ^ w) xs && below (2 ^ w) ys)
words_joined w top a b xs ys e h l = rw (e, or_below w a b, h, l, join_below w xs, join_below w ys)
