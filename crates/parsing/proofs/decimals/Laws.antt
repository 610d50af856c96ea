-- Laws of reading a decimal number. Assumes nothing.
use Prim.Native.Nat.{ℕ, ◌+◌, ◌-◌, ◌*◌, ◌<◌, ◌≤◌}
use mathlib.Core.Path.{◌≡◌, refl}
use mathlib.Core.Bool.{Bool, true, false, ◌&&◌}
use mathlib.Core.List.{List, [], ◌∷◌}
use native.Mathlib.Omega.{arith}
use borrow.Author.Tests.{lt-ltb, le-ltb, leb-true, leb-false}
use lib.Dec.{eqb, leb}
use lib.ListN.{length}
use Rattle.std.specs.Prelude.{None}
use Rattle.laws.specs.Choice.{pick}
use Rattle.parsing.specs.Decimals.{is_digit, decimal_from, decimal_of, at_most, value_of, answered}
use Rattle.parsing.specs.Words.{hex_value}
use Rattle.parsing.specs.Numbers.{digits_from, number_in}

-- the digits of base 10

digit_value : (b : ℕ) → is_digit b ≡ true → (hex_value b ≡ b - 48) × (hex_value b < 10)
unfolding hex_value pick
digit_value b e = go (leb 48 b) (leb b 57) refl refl e
  where
    go : (p q : Bool) → leb 48 b ≡ p → leb b 57 ≡ q → p && q ≡ true → (hex_value b ≡ b - 48) × (hex_value b < 10)
    go true true x y e = let h = leb-true b 57 y in (rw (x, y), rw (x, y) (omega arith))
    go true false x y e = cc
    go false q x y e = cc

other_value : (b : ℕ) → is_digit b ≡ false → 10 ≤ hex_value b
unfolding hex_value pick
other_value b e = go (leb 65 b) (leb b 70) (leb 97 b) (leb b 102) refl refl refl refl
  where
    go : (p q r s : Bool) → leb 65 b ≡ p → leb b 70 ≡ q → leb 97 b ≡ r → leb b 102 ≡ s → 10 ≤ hex_value b
    go true true r s x y z w = let h = leb-true 65 b x in rw (e, x, y) (omega arith)
    go true false true true x y z w = let h = leb-true 97 b z in rw (e, x, y, z, w) (omega arith)
    go true false true false x y z w = rw (e, x, y, z, w) (omega arith)
    go true false false s x y z w = rw (e, x, y, z) (omega arith)
    go false q true true x y z w = let h = leb-true 97 b z in rw (e, x, z, w) (omega arith)
    go false q true false x y z w = rw (e, x, z, w) (omega arith)
    go false q false s x y z w = rw (e, x, z) (omega arith)

pub decimal_digits : (v : ℕ) (t : List ℕ) → digits_from 10 v t ≡ decimal_from v t
unfolding digits_from decimal_from pick
decimal_digits v [] = refl
decimal_digits v (b ∷ t) = go (is_digit b) refl (decimal_digits (10 * v + (b - 48)) t)
  where
    go : (r : Bool) → is_digit b ≡ r → digits_from 10 (10 * v + (b - 48)) t ≡ decimal_from (10 * v + (b - 48)) t → digits_from 10 v (b ∷ t) ≡ decimal_from v (b ∷ t)
    go true e more =
        let h = digit_value b e in
        let i = h.0 in
        let k = h.1 in
        rw (e, lt-ltb (hex_value b) 10 k, i) more
    go false e more = rw (e, le-ltb (hex_value b) 10 (other_value b e))

module _ (t : List ℕ) where
  pub empty_none : eqb (length t) 0 ≡ true → None ≡ answered (decimal_of t)
  unfolding decimal_of pick
  empty_none h = rw h

  pub digits_all : eqb (length t) 0 ≡ false → answered (digits_from 10 0 t) ≡ answered (decimal_of t)
  unfolding decimal_of pick
  digits_all h = rw (h, decimal_digits 0 t)

  pub value_is : number_in 10 10 t ≡ value_of t
  unfolding number_in value_of decimal_of at_most pick
  value_is = go (eqb (length t) 0) (leb (length t) 10) refl refl
    where
      go : (p q : Bool) → eqb (length t) 0 ≡ p → leb (length t) 10 ≡ q → number_in 10 10 t ≡ value_of t
      go true true x y = rw (x, y)
      go true false x y = rw (x, y)
      go false true x y = rw (x, y, le-ltb 10 (length t) (leb-true (length t) 10 y), decimal_digits 0 t)
      go false false x y = rw (x, y, lt-ltb 10 (length t) (leb-false (length t) 10 y))
