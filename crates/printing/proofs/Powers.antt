-- The digits of a number: powers of ten, and the digits stored from the last on. Assumes nothing.
use Prim.Native.Nat.{ℕ, zero, suc, ◌+◌, ◌-◌, ◌*◌, ◌/◌, ◌%◌, ◌^◌, ◌≤◌, ◌<◌}
use mathlib.Core.Path.{◌≡◌, refl, sym, ap, subst, ◌∙◌}
use mathlib.Core.List.{List, [], ◌∷◌, ◌++◌}
use native.Mathlib.Nat.{one-mul, pow-zero, pow-suc, one-le-pow, pow-le-pow_right, div-div-eq-div-mul, le-div_iff_mul-le, div-lt_iff_lt-mul, lt_of_not-le, le_of_suc-le-suc, not-suc-le-zero}
use native.Mathlib.Numerals.{add-one, sub-one}
use native.Mathlib.Omega.{arith}
use lib.ListN.{length, take, drop, set}
use lib.Seq.{slice, length-take-le, take-set-lt, append_snoc}
use Rattle.printing.specs.Digits.{hex_digit_ascii, last_digits, IsDigitCount}

pub one_power : (n : ℕ) → n / 10 ≡ n / 10 ^ 1
one_power n = ap (λ (d : ℕ). n / d) (sym (pow-suc 10 0 ∙ ap (λ (p : ℕ). p * 10) (pow-zero 10) ∙ one-mul 10))

pub next_power : (n k : ℕ) → n / 10 ^ k / 10 ≡ n / 10 ^ (k + 1)
next_power n k = div-div-eq-div-mul n (10 ^ k) 10 ∙ ap (λ (d : ℕ). n / d) (sym (pow-suc 10 k) ∙ ap (λ (j : ℕ). 10 ^ j) (sym (add-one k)))

-- something is left of n after k digits, so one more is wanted
pub goes_on : (n k rest : ℕ) → rest ≡ n / 10 ^ k → 0 < rest → 10 ^ (k + 1 - 1) ≤ n
goes_on n k rest e some =
    let j : k ≡ k + 1 - 1 = omega arith in
    let m : 0 < n / 10 ^ k = omega arith in
    let p : 1 * 10 ^ k ≤ n = (le-div_iff_mul-le (one-le-pow k 10 (omega arith))).0 m in
    subst (λ (x : ℕ). 10 ^ x ≤ n) j (omega arith)

-- nothing is left of n after k digits, so k digits hold it
pub ends : (n k rest : ℕ) → rest ≡ n / 10 ^ k → rest ≤ 0 → n < 10 ^ k
ends n k rest e none =
    let m : n / 10 ^ k < 1 = omega arith in
    let p : n < 1 * 10 ^ k = (div-lt_iff_lt-mul (one-le-pow k 10 (omega arith))).0 m in
    omega arith

too_few : (n k : ℕ) → IsDigitCount 10 1 n k → n < 10 ^ 20 → 20 < k → ⊥
too_few n k fewest h over =
    let p : 10 ^ (k - 1) ≤ n = fewest.2 (omega arith) in
    let q : 10 ^ 20 ≤ 10 ^ (k - 1) = pow-le-pow_right {n = 10} (omega arith) {i = 20} {j = k - 1} (omega arith) in
    omega arith

-- twenty digits hold a number of 64 bits
pub count_fits : (n k : ℕ) → IsDigitCount 10 1 n k → n < 2 ^ 64 → k ≤ 20
count_fits n k fewest h = le_of_suc-le-suc (lt_of_not-le (too_few n k fewest (omega arith)))

-- after a store at j, the list from j on begins with what was stored
drop-set : (t : List ℕ) (j g : ℕ) → j < length t → drop j (set t j g) ≡ g ∷ drop (suc j) t
drop-set [] j g h = absurd (not-suc-le-zero h)
drop-set (x ∷ xs) zero g h = refl
drop-set (x ∷ xs) (suc j) g h = drop-set xs j g (le_of_suc-le-suc h)

-- a turn moves the last of the digits that are still to write to the front of those that are written
pub digits_step : (i k rest g : ℕ) (out : List ℕ) → 0 < i → i ≤ k → k ≤ length out → g ≡ hex_digit_ascii (rest % 10) →
    last_digits 10 (i - 1) (rest / 10) ++ slice (i - 1) k (set out (i - 1) g) ≡ last_digits 10 i rest ++ slice i k out
digits_step zero k rest g out some h room e = absurd (not-suc-le-zero some)
digits_step (suc j) k rest g out some h room e =
    let todo = last_digits 10 j (rest / 10) in
    let stored = slice (suc j) k out in
    let within : j < length (take k out) = subst (λ (n : ℕ). j < n) (sym (length-take-le k out room)) h in
    ap (λ (m : ℕ). last_digits 10 m (rest / 10) ++ slice m k (set out m g)) (sub-one (suc j)) ∙
    ap (λ (l : List ℕ). todo ++ drop j l) (take-set-lt k out j g h) ∙
    ap (λ (l : List ℕ). todo ++ l) (drop-set (take k out) j g within) ∙
    ap (λ (x : ℕ). todo ++ x ∷ stored) e ∙
    sym (append_snoc todo (hex_digit_ascii (rest % 10)) stored)
