-- Laws of reading digits to a base, in the shape that the code leaves. Assumes nothing.
use Prim.Native.Nat.{ℕ, suc, ◌+◌, ◌*◌, ◌^◌, ◌<◌, ◌≤◌, min}
use mathlib.Core.Path.{◌≡◌, refl, sym, ap, ◌∙◌}
use mathlib.Core.Bool.{Bool, true, false, ◌||◌}
use mathlib.Core.List.{List, [], ◌∷◌}
use native.Mathlib.Nat.{mul-le-mul_left}
use native.Mathlib.Omega.{arith}
use native.Mathlib.Numerals.{add-one}
use borrow.Author.Tests.{lt-ltb, le-ltb, le-leb, lt-leb, ltb-true, ltb-false}
use lib.Dec.{T, eqb, ltb, eqb→eq}
use lib.ListN.{length, get_or, drop, drop_of_length-le}
use lib.Seq.{drop-cons}
use Rattle.std.specs.Prelude.{Option, Some, None, SomeIff, Result, Ok, Err, OkIff}
use Rattle.std.specs.Result.{result_ok}
use Rattle.std.specs.Char.{digit_value}
use Rattle.laws.specs.Choice.{pick}
use Rattle.laws.specs.Table.{every, at_every}
use Rattle.parsing.specs.Decimals.{most_value, at_most, limit, capped, answered}
use Rattle.parsing.specs.Words.{hex_value}
use Rattle.parsing.specs.Numbers.{digits_from, number_in}

-- A number above the limit is answered as the limit

pub capped_min : (n : ℕ) → min n limit ≡ capped n
unfolding capped pick
capped_min n = go (ltb n limit) refl
  where
    go : (b : Bool) → ltb n limit ≡ b → min n limit ≡ pick b n limit
    go true e = let h = ltb-true n limit e in omega arith
    go false e = let h = ltb-false n limit e in omega arith

-- what a number above the limit is answered as does not hang on how far it is above
pub cases : (P : ℕ → Type 0) (n : ℕ) → (n < limit → P n) → (limit ≤ n → P limit) → P (capped n)
unfolding capped pick
cases P n p q = go (ltb n limit) refl
  where
    go : (b : Bool) → ltb n limit ≡ b → P (pick b n limit)
    go true e = p (ltb-true n limit e)
    go false e = q (ltb-false n limit e)

cap_high : (n : ℕ) → limit ≤ n → limit ≡ capped n
cap_high n h = sym (let m = capped_min n in sym m ∙ (omega arith))

pub cap_most : (n : ℕ) → capped n ≤ limit
cap_most n = cases (λ m. m ≤ limit) n (λ h. omega arith) (λ h. omega arith)

pub cap_same : (n : ℕ) → n ≤ limit → capped n ≡ n
cap_same n h = cases (λ m. m ≡ n) n (λ k. refl) (λ k. omega arith)

capped_low : (n : ℕ) → capped n < limit → capped n ≡ n
capped_low n = cases (λ m. m < limit → m ≡ n) n (λ h k. refl) (λ h k. absurd (omega arith))

capped_high : (n : ℕ) → limit ≤ capped n → limit ≤ n
capped_high n = cases (λ m. limit ≤ m → limit ≤ n) n (λ h k. k) (λ h k. h)

not-lt : (v : ℕ) → (v < 2 ^ 32 → ⊥) → limit ≤ v
not-lt v h = omega arith

module _ (base : ℕ) (low : 2 ≤ base) where
  grows : (n d : ℕ) → limit ≤ n → limit ≤ base * n + d
  grows n d h = let m : 2 * n ≤ base * n = native.Mathlib.Nat.mul-le-mul_right n low in omega arith

  cap_again : (n d : ℕ) → capped (base * capped n + d) ≡ capped (base * n + d)
  cap_again n d =
      cases (λ m. capped (base * m + d) ≡ capped (base * n + d)) n (λ h. refl)
      (λ h. sym (cap_high (base * limit + d) (grows limit d (omega arith))) ∙ cap_high (base * n + d) (grows n d h))

  either_answer : (b : Bool) (x y : Option ℕ) → answered x ≡ answered y → answered (pick b x None) ≡ answered (pick b y None)
  unfolding pick
  either_answer true x y e = e
  either_answer false x y e = refl

  -- so digits may be read on from what was answered
  from_capped : (n : ℕ) (t : List ℕ) → answered (digits_from base (capped n) t) ≡ answered (digits_from base n t)
  unfolding digits_from
  from_capped n [] = rw (cap_same (capped n) (cap_most n))
  from_capped n (b ∷ t) =
      let d = hex_value b in
      either_answer (ltb d base) (digits_from base (base * capped n + d) t) (digits_from base (base * n + d) t)
      (sym (from_capped (base * capped n + d) t) ∙ ap (λ (m : ℕ). answered (digits_from base m t)) (cap_again n d) ∙ from_capped (base * n + d) t)

-- The library's value of a digit is the same below 16: a test over the bytes

same : ℕ → Bool
same b = eqb (min (digit_value b) 16) (hex_value b)

all_same : T (every 256 same)
unfolding same hex_value pick
all_same = tt

pub digit_is : (b : ℕ) → b < 256 → min (digit_value b) 16 ≡ hex_value b
unfolding same
digit_is b h = eqb→eq (min (digit_value b) 16) (hex_value b) (at_every 256 same b all_same h)

module _ (base : ℕ) (low : 2 ≤ base) (high : base ≤ 16) (t : List ℕ) (v i : ℕ)
    (e : answered (digits_from base v (drop i t)) ≡ answered (digits_from base 0 t)) where
  module _ (h : i < length t) (byte : get_or t i 0 < 256) where
    at_byte : answered (digits_from base v (get_or t i 0 ∷ drop (suc i) t)) ≡ answered (digits_from base 0 t)
    at_byte = sym (ap (λ (l : List ℕ). answered (digits_from base v l)) (drop-cons t i 0 h)) ∙ e

    pub breaks : (digit_value (get_or t i 0) < base → ⊥) → None ≡ answered (digits_from base 0 t)
    unfolding digits_from pick
    breaks n =
        let k = digit_is (get_or t i 0) byte in
        let there : answered (digits_from base v (get_or t i 0 ∷ drop (suc i) t)) ≡ None = rw (le-ltb (hex_value (get_or t i 0)) base (omega arith)) in
        sym there ∙ at_byte

    pub goes_on : (d w : ℕ) → digit_value (get_or t i 0) < base → d ≡ digit_value (get_or t i 0) → w ≡ min (base * v + d) limit →
        answered (digits_from base w (drop (i + 1) t)) ≡ answered (digits_from base 0 t)
    unfolding digits_from pick
    goes_on d w n q k =
        let m = digit_is (get_or t i 0) byte in
        let f : d ≡ hex_value (get_or t i 0) = omega arith in
        let x = base * v + hex_value (get_or t i 0) in
        let u : w ≡ capped x = k ∙ rw f (capped_min x) in
        let there : answered (digits_from base v (get_or t i 0 ∷ drop (suc i) t)) ≡ answered (digits_from base x (drop (suc i) t)) =
        rw (lt-ltb (hex_value (get_or t i 0)) base (omega arith)) in
        rw (u, add-one) (from_capped base low x (drop (suc i) t)) ∙ sym there ∙ at_byte

  pub done : length t ≤ i → v ≤ limit → Some v ≡ answered (digits_from base 0 t)
  unfolding digits_from
  done h m =
      let r : answered (digits_from base v (drop i t)) ≡ Some (capped v) = ap (λ (l : List ℕ). answered (digits_from base v l)) (drop_of_length-le t h) in
      rw (cap_same v m) at (sym r ∙ e)

-- 1 to `most` digits of a number below 2^32

module _ (base most : ℕ) (t : List ℕ) where
  pub none_in : (b : Bool) → b ≡ eqb (length t) 0 → b || ltb most (length t) ≡ true → None ≡ number_in base most t
  unfolding number_in pick
  none_in b e h = rw (rw e at h)

  module _ (b : Bool) (e : b ≡ eqb (length t) 0) (h : b || ltb most (length t) ≡ false) where
    digits : number_in base most t ≡ at_most most_value (digits_from base 0 t)
    unfolding number_in pick
    digits = rw (rw e at h)

    pub no_digits : None ≡ answered (digits_from base 0 t) → None ≡ number_in base most t
    unfolding at_most
    no_digits e = rw digits (go (digits_from base 0 t) e)
      where
        go : (x : Option ℕ) → None ≡ answered x → None ≡ at_most most_value x
        go None e = refl
        go (Some n) e = cc

    -- r is the number where that is below 2^32
    pub the_number : (v : ℕ) (r : Option ℕ) → Some v ≡ answered (digits_from base 0 t) → SomeIff r (v < 2 ^ 32) v → r ≡ number_in base most t
    unfolding at_most pick
    the_number v r e q = rw digits (go (digits_from base 0 t) r e q)
      where
        go : (x r : Option ℕ) → Some v ≡ answered x → SomeIff r (v < 2 ^ 32) v → r ≡ at_most most_value x
        go None r e q = cc
        go (Some n) None e q =
            let is : v ≡ capped n = cc in
            let h : limit ≤ n = capped_high n (rw is at (not-lt v q)) in
            rw (lt-leb n most_value (omega arith))
        go (Some n) (Some w) e q =
            let is : v ≡ capped n = cc in
            let k = q.0 in
            let same : capped n ≡ n = capped_low n (omega arith) in
            let there : w ≡ n = q.1 ∙ is ∙ same in
            rw (le-leb n most_value (omega arith), there)

pub as_option : {E : Type 0} (x : Result ℕ E) (P : Type 0) (v : ℕ) → OkIff x P v → (r : Option ℕ) → r ≡ result_ok x → SomeIff r P v
as_option (Ok n) P v h r e = rw e h
as_option (Err m) P v h r e = rw e h
