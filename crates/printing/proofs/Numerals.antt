-- The fewest decimal digits of a number are `places_from`'s. Assumes nothing.
use Prim.Native.Nat.{ℕ, zero, suc, ◌*◌, ◌/◌, ◌^◌, ◌<◌, ◌≤◌}
use mathlib.Core.Path.{◌≡◌, refl, ap, ◌∙◌}
use mathlib.Core.List.{List}
use native.Mathlib.Numerals.{unary_clauses}
use native.Mathlib.Omega.{arith}
use borrow.Author.Tests.{lt-ltb, le-ltb}
use lib.Dec.{ltb}
use lib.ListN.{length, length-append}
use Rattle.laws.specs.Choice.{pick, either}
use Rattle.printing.specs.Digits.{last_digits, IsDigitCount}
use Rattle.printing.specs.Numerals.{places_from, decimal}

-- 10 ^ k is positive
at_least : (k : ℕ) → 1 ≤ 10 ^ k
at_least zero = omega arith
at_least (suc k) = simp unary_clauses (omega (arith, at_least k))

ten_times : (k : ℕ) → 10 ^ suc k ≡ 10 * 10 ^ k
ten_times k = simp unary_clauses (omega arith)

pub fewest : (f n k : ℕ) → n < 10 ^ suc f → IsDigitCount 10 1 n k → k ≡ places_from f n
unfolding places_from pick
fewest f n zero h x = absurd (omega (arith, x.0))
fewest zero n (suc zero) h x = refl
fewest zero n (suc (suc k)) h x =
    let z : 10 ^ suc k ≤ n = simp unary_clauses (simp unary_clauses at (x.2 (omega arith))) in
    absurd (omega (arith, at_least k, ten_times k))
fewest (suc f) n (suc zero) h x = let y : n < 10 = x.1 in rw (lt-ltb n 10 y)
fewest (suc f) n (suc (suc k)) h x =
    let z : 10 ^ suc k ≤ n = simp unary_clauses (simp unary_clauses at (x.2 (omega arith))) in
    let y = at_least k in
    let t = ten_times k in
    rw (le-ltb n 10 (omega arith))
    (ap suc
    (fewest f (n / 10) (suc k) (omega (arith, ten_times (suc f))) (omega arith, omega (arith, x.1, ten_times (suc k)), λ _. simp unary_clauses (omega arith))))

pub decimal_is : (n k : ℕ) (bytes : List ℕ) → n < 2 ^ 64 → IsDigitCount 10 1 n k → bytes ≡ last_digits 10 k n → bytes ≡ decimal n
unfolding decimal
decimal_is n k bytes h x e = e ∙ ap (λ (m : ℕ). last_digits 10 m n) (fewest 19 n k (omega arith) x)

length_digits : (b k n : ℕ) → length (last_digits b k n) ≡ k
length_digits b zero n = refl
length_digits b (suc k) n = rw length-append (omega (arith, length_digits b k (n / b)))

-- two digits below 100

low : (m : ℕ) → m < 10 → suc (places_from 18 m) ≤ 2
unfolding places_from pick
low m k = rw (lt-ltb m 10 k) (omega arith)

pub decimal_short : (n : ℕ) → n < 100 → length (decimal n) ≤ 2
unfolding decimal places_from
decimal_short n h =
    rw length_digits
    (either (λ (k : ℕ). k ≤ 2) (ltb n 10) 1 (suc (places_from 18 (n / 10))) (λ _. omega arith) (λ _. low (n / 10) (omega arith)))
