-- A number printed in decimal is read back. Assumes nothing.
use Prim.Native.Nat.{ℕ, zero, suc, ◌+◌, ◌-◌, ◌*◌, ◌/◌, ◌%◌, ◌^◌, ◌<◌, ◌≤◌}
use mathlib.Core.Path.{◌≡◌, refl, sym, ap, ◌∙◌}
use mathlib.Core.Bool.{Bool, true, false, ◌&&◌}
use mathlib.Core.List.{List, [], ◌∷◌, ◌++◌, append_assoc, append-nil}
use native.Mathlib.Nat.{pow-suc, mod-lt}
use native.Mathlib.Omega.{arith}
use borrow.Author.Tests.{lt-ltb, le-ltb, le-leb, ne_eqb, ltb-true, ltb-false}
use lib.Dec.{T, eqb, ltb, eqb→eq}
use lib.ListN.{length, length-append}
use Rattle.laws.specs.Choice.{pick, is_true}
use Rattle.laws.specs.Lists.{all}
use Rattle.laws.specs.Table.{every, at_every}
use Rattle.printing.specs.Digits.{hex_digit_ascii, last_digits}
use Rattle.parsing.specs.Decimals.{is_digit, decimal_from, decimal_of, most_digits, most_value, at_most, value_of}
use Rattle.std.specs.Prelude.{Some}
use Rattle.parsing.proofs.Printed.{filled}
use Rattle.printing.specs.Numerals.{places_from, decimal}

-- the ten digits, each tested

digit_read : ℕ → Bool
digit_read d = eqb (hex_digit_ascii d - 48) d

digit_told : ℕ → Bool
digit_told d = is_digit (hex_digit_ascii d)

digit_filled : ℕ → Bool
digit_filled d = filled (hex_digit_ascii d)

all_read : T (every 10 digit_read)
unfolding digit_read
all_read = tt

all_told : T (every 10 digit_told)
unfolding digit_told
all_told = tt

all_filled : T (every 10 digit_filled)
unfolding digit_filled
all_filled = tt

module _ (d : ℕ) (h : d < 10) where
  reads : hex_digit_ascii d - 48 ≡ d
  unfolding digit_read
  reads = eqb→eq (hex_digit_ascii d - 48) d (at_every 10 digit_read d all_read h)

  told : is_digit (hex_digit_ascii d) ≡ true
  unfolding digit_told
  told = is_true (is_digit (hex_digit_ascii d)) (at_every 10 digit_told d all_told h)

  fills : filled (hex_digit_ascii d) ≡ true
  unfolding digit_filled
  fills = is_true (filled (hex_digit_ascii d)) (at_every 10 digit_filled d all_filled h)

-- how many digits

length_digits : (k n : ℕ) → length (last_digits 10 k n) ≡ k
length_digits zero n = refl
length_digits (suc k) n =
    let h = length_digits k (n / 10) in
    omega (arith, length-append (last_digits 10 k (n / 10)) (hex_digit_ascii (n % 10) ∷ []))

one_place : (f n : ℕ) → n < 10 → places_from f n ≡ 1
unfolding places_from pick
one_place zero n h = refl
one_place (suc f) n h = rw (lt-ltb n 10 h)

more_places : (f n : ℕ) → 10 ≤ n → places_from (suc f) n ≡ suc (places_from f (n / 10))
unfolding places_from pick
more_places f n h = rw (le-ltb n 10 h)

places_hold : (f n : ℕ) → n < 10 ^ suc f → n < 10 ^ places_from f n
places_hold zero n h = rw (one_place 0 n (omega arith)) (omega arith)
places_hold (suc f) n h = go (ltb n 10) refl (places_hold f (n / 10))
  where
    go : (b : Bool) → ltb n 10 ≡ b → (n / 10 < 10 ^ suc f → n / 10 < 10 ^ places_from f (n / 10)) → n < 10 ^ places_from (suc f) n
    go true e k = let l = ltb-true n 10 e in rw (one_place (suc f) n l) (omega arith)
    go false e k =
        let l = ltb-false n 10 e in
        let h' : n < 10 ^ suc f * 10 = rw (pow-suc 10 (suc f)) at h in
        let q = k (omega arith) in
        rw (more_places f n l, pow-suc 10 (places_from f (n / 10))) (omega arith)

places_few : (f n k : ℕ) → n < 10 ^ suc k → places_from f n ≤ suc k
unfolding places_from
places_few zero n k h = omega arith
places_few (suc f) n zero h = rw (one_place (suc f) n (omega arith)) (omega arith)
places_few (suc f) n (suc k) h = go (ltb n 10) refl (places_few f (n / 10) k)
  where
    go : (b : Bool) → ltb n 10 ≡ b → (n / 10 < 10 ^ suc k → places_from f (n / 10) ≤ suc k) → places_from (suc f) n ≤ suc (suc k)
    go true e i = let l = ltb-true n 10 e in rw (one_place (suc f) n l) (omega arith)
    go false e i =
        let l = ltb-false n 10 e in
        let h' : n < 10 ^ suc k * 10 = rw (pow-suc 10 (suc k)) at h in
        let q = i (omega arith) in
        rw (more_places f n l) (omega arith)

one_or_more : (f n : ℕ) → 1 ≤ places_from f n
unfolding places_from
one_or_more zero n = omega arith
one_or_more (suc f) n = go (ltb n 10) refl
  where
    go : (b : Bool) → ltb n 10 ≡ b → 1 ≤ places_from (suc f) n
    go true e = rw (one_place (suc f) n (ltb-true n 10 e)) (omega arith)
    go false e = rw (more_places f n (ltb-false n 10 e)) (omega arith)

-- the digits of a number that has no more

one_digit : (v x : ℕ) (t : List ℕ) → is_digit x ≡ true → decimal_from v (x ∷ t) ≡ decimal_from (10 * v + (x - 48)) t
unfolding decimal_from pick
one_digit v x t e = rw e

reads_digits : (k n : ℕ) (t : List ℕ) → n < 10 ^ k → decimal_from 0 (last_digits 10 k n ++ t) ≡ decimal_from n t
reads_digits zero n t h = let z : n ≡ 0 = omega arith in rw z
reads_digits (suc k) n t h =
    let m = mod-lt n {m = 10} (omega arith) in
    let x = hex_digit_ascii (n % 10) in
    let h' : n < 10 ^ k * 10 = rw (pow-suc 10 k) at h in
    let q : n / 10 < 10 ^ k = omega arith in
    let r = reads (n % 10) (omega arith) in
    let v : 10 * (n / 10) + (x - 48) ≡ n = rw r (omega arith) in
    ap (decimal_from 0) (append_assoc (last_digits 10 k (n / 10)) (x ∷ []) t) ∙ reads_digits k (n / 10) (x ∷ t) q ∙
    one_digit (n / 10) x t (told (n % 10) (omega arith)) ∙ ap (λ (y : ℕ). decimal_from y t) v

pub all_append : (f : ℕ → Bool) (xs ys : List ℕ) → all f xs ≡ true → all f ys ≡ true → all f (xs ++ ys) ≡ true
all_append f [] ys x y = y
all_append f (b ∷ xs) ys x y = go (f b) x (λ e. all_append f xs ys e y)
  where
    go : (p : Bool) → p && all f xs ≡ true → (all f xs ≡ true → all f (xs ++ ys) ≡ true) → p && all f (xs ++ ys) ≡ true
    go true e i = i e
    go false e i = e

digits_filled : (k n : ℕ) → all filled (last_digits 10 k n) ≡ true
digits_filled zero n = refl
digits_filled (suc k) n =
    let m = mod-lt n {m = 10} (omega arith) in
    all_append filled (last_digits 10 k (n / 10)) (hex_digit_ascii (n % 10) ∷ []) (digits_filled k (n / 10)) (rw (fills (n % 10) (omega arith)))

module _ (n : ℕ) (h : n < 2 ^ 32) where
  decimal_length : (1 ≤ length (decimal n)) × (length (decimal n) ≤ 10)
  unfolding decimal
  decimal_length =
      let l = length_digits (places_from 19 n) n in
      let a = one_or_more 19 n in
      let b = places_few 19 n 9 (omega arith) in
      (omega arith, omega arith)

  decimal_back : decimal_of (decimal n) ≡ Some n
  unfolding decimal_of decimal decimal_from pick
  decimal_back =
      let k = places_from 19 n in
      let l = length_digits k n in
      let a = one_or_more 19 n in
      let z : decimal_from 0 (last_digits 10 k n) ≡ Some n =
      ap (decimal_from 0) (sym (append-nil (last_digits 10 k n))) ∙ reads_digits k n [] (places_hold 19 n (omega arith)) in
      rw (ne_eqb (length (last_digits 10 k n)) 0 (λ e. absurd (omega arith))) z

  pub value_back : value_of (decimal n) ≡ Some n
  unfolding value_of at_most pick
  value_back = rw (le-leb (length (decimal n)) most_digits decimal_length.1, decimal_back, le-leb n most_value (omega arith))

  pub decimal_filled : all filled (decimal n) ≡ true
  unfolding decimal
  decimal_filled = digits_filled (places_from 19 n) n
