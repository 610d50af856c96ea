-- What the joined bits of cells tell of the cells. Assumes nothing.
use Prim.Native.Nat.{ℕ, ◌^◌, ◌≤◌}
use mathlib.Core.Path.{◌≡◌, refl, sym, ◌∙◌}
use mathlib.Core.Bool.{Bool, true, false, ◌&&◌, and_assoc, and-true}
use mathlib.Core.List.{List, [], ◌∷◌}
use native.Mathlib.Nat.{le_trans}
use native.Mathlib.Omega.{arith}
use borrow.Author.Tests.{lt-ltb, le-ltb, ltb-true, ltb-false, eq-eqb, ne_eqb}
use lib.Bits.{bit_or, or_lt, or_add_and, and_le_l, and_le_r}
use lib.Dec.{ltb, eqb}
use lib.Pow.{pow_pos}
use Rattle.laws.specs.Test.{below}
use Rattle.std.specs.List.{fold}
use Rattle.guards.specs.Joins.{join_of}

or_most_l : (a b : ℕ) → a ≤ bit_or a b
or_most_l a b = omega (arith, or_add_and a b, and_le_r a b)

or_most_r : (a b : ℕ) → b ≤ bit_or a b
or_most_r a b = omega (arith, or_add_and a b, and_le_l a b)

-- two numbers joined are below a power of two where both are
pub or_below : (k a b : ℕ) → ltb (bit_or a b) (2 ^ k) ≡ (ltb a (2 ^ k) && ltb b (2 ^ k))
or_below k a b = go (ltb a (2 ^ k)) (ltb b (2 ^ k)) refl refl
  where
    go : (p q : Bool) → ltb a (2 ^ k) ≡ p → ltb b (2 ^ k) ≡ q → ltb (bit_or a b) (2 ^ k) ≡ (p && q)
    go true true h l = lt-ltb _ _ (or_lt k a b (ltb-true _ _ h) (ltb-true _ _ l))
    go true false h l = le-ltb (bit_or a b) (2 ^ k) (le_trans (ltb-false b (2 ^ k) l) (or_most_r a b))
    go false q h l = le-ltb (bit_or a b) (2 ^ k) (le_trans (ltb-false a (2 ^ k) h) (or_most_l a b))

from_below : (k a : ℕ) (xs : List ℕ) → ltb (fold bit_or a xs) (2 ^ k) ≡ (ltb a (2 ^ k) && below (2 ^ k) xs)
from_below k a [] = sym (and-true (ltb a (2 ^ k)))
from_below k a (x ∷ xs) = from_below k (bit_or a x) xs ∙ rw (or_below k a x) (and_assoc (ltb a (2 ^ k)) (ltb x (2 ^ k)) (below (2 ^ k) xs))

eqb_below : (n : ℕ) → eqb n 0 ≡ ltb n 1
eqb_below n = go (ltb n 1) refl
  where
    go : (p : Bool) → ltb n 1 ≡ p → eqb n 0 ≡ p
    go true h = eq-eqb n 0 (omega (arith, ltb-true n 1 h))
    go false h = ne_eqb n 0 (λ e. omega (arith, e, ltb-false n 1 h))

-- the joined bits are below a power of two where every cell is
pub join_below : (k : ℕ) (xs : List ℕ) → ltb (join_of xs) (2 ^ k) ≡ below (2 ^ k) xs
join_below k xs = from_below k 0 xs ∙ rw (lt-ltb 0 (2 ^ k) (pow_pos k))

-- no bit is set in any where every cell is 0
pub join_zero : (xs : List ℕ) → eqb (join_of xs) 0 ≡ below 1 xs
join_zero xs = eqb_below (join_of xs) ∙ join_below 0 xs
