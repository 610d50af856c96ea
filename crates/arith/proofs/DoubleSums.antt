-- Two words added one after the other, the second with the flag of the first, are the two-word sum; subtracted, the difference.
-- Assumes nothing.
use Rattle.std.proofs.Common.{◌≡◌, ℕ, ◌+◌, ◌-◌, ◌*◌, ◌%◌, ◌^◌, ◌<◌, ◌≤◌, Bool, true, false, ltb, leb, sym, refl, ap, ◌∙◌, mul-le-mul_right, mod-lt, mod-eq_of_lt, suc-mul, add-mul, one-mul, zero-mul, arith, pow_pos, ltb-false, ltb-true, le-ltb, lt-ltb, le-leb, leb-false, leb-true}
use native.Mathlib.Nat.{mod-eq-sub-mod}
use borrow.Author.Tests.{lt-leb}
use Rattle.laws.specs.Choice.{pick}
use Rattle.arith.specs.Width.{one}
use Rattle.arith.specs.Sums.{add_of, difference, sub_of}
use Rattle.arith.specs.Alu.{alu_of}
use Rattle.arith.specs.DoubleSums.{DoubleWord, double_word, number, AreWords, adding, subtracting, square, Gives, DoubleSums}
use Rattle.arith.proofs.Fits.{one_le}

-- One word, modulo m: a result below m, and in exact arithmetic its flag is worth m. A difference is a sum read backwards: the result and b make a.

module _ (m : ℕ) (some : 0 < m) where
  -- the flag b is what s has beyond v
  abbrev Exact : ℕ → ℕ → Bool → Type 0
  Exact s v b = s ≡ v + one b * m

  one_m : (b : Bool) → one b * m ≡ pick b m 0
  unfolding one pick
  one_m true = one-mul m
  one_m false = zero-mul m

  sum_exact : (s : ℕ) → s < m + m → Exact s (s % m) (leb m s)
  unfolding pick
  sum_exact s h = go (leb m s) refl
    where
      go : (t : Bool) → leb m s ≡ t → Exact s (s % m) t
      go true q =
          let g = leb-true m s q in
          let f : s % m ≡ s - m = mod-eq-sub-mod g ∙ mod-eq_of_lt (omega (arith, g, h)) in
          rw (one_m true, f) (omega (arith, g))
      go false q = rw (one_m false, mod-eq_of_lt (leb-false m s q)) (omega arith)

  difference_exact : (d a b : ℕ) → a < m → b ≤ m → d + b ≡ m + a → Exact (d % m + b) a (ltb a b)
  unfolding pick
  difference_exact d a b h k e = go (ltb a b) refl
    where
      go : (t : Bool) → ltb a b ≡ t → Exact (d % m + b) a t
      go true q =
          let f : d % m ≡ d = mod-eq_of_lt (omega (arith, ltb-true a b q, e)) in
          rw (one_m true, f) (omega (arith, e))
      go false q =
          let g = ltb-false a b q in
          let f : d % m ≡ d - m = mod-eq-sub-mod (omega (arith, g, e)) ∙ mod-eq_of_lt (omega (arith, g, h, k, e)) in
          rw (one_m false, f) (omega (arith, g, e))

  -- Two words, high * m + low: the low words' flag is worth one in the high words, theirs the square

  square_m : (b : Bool) → one b * m * m ≡ pick b (m * m) 0
  unfolding one pick
  square_m true = rw (one-mul m)
  square_m false = rw (zero-mul m) (zero-mul m)

  two_below : (x y : ℕ) → x < m → y < m → x * m + y < m * m
  two_below x y h k = let g = mul-le-mul_right m h in let e = suc-mul x m in omega (arith, g, e, k)

  two_exact : (ah al bh bl vh vl : ℕ) (c d : Bool) →
      Exact (al + bl) vl c →
      Exact (ah + (bh + one c)) vh d →
      ah * m + al + (bh * m + bl) ≡ vh * m + vl + pick d (m * m) 0
  two_exact ah al bh bl vh vl c d l h =
      let e = ap (λ n. n * m) h in
      let f : ah * m + (bh * m + one c * m) ≡ vh * m + one d * m * m = simp add-mul at e in
      let g : ah * m + (bh * m + one c * m) ≡ vh * m + pick d (m * m) 0 = f ∙ ap (λ n. vh * m + n) (square_m d) in
      omega (arith, g, l)

-- so modulo the square p: r is what is left, and the flag is right

sum_left : (p s r : ℕ) (d : Bool) → r < p → s ≡ r + pick d p 0 → (r ≡ s % p) × (d ≡ leb p s)
unfolding pick
sum_left p s r true h e =
    (sym (mod-eq-sub-mod (omega (arith, e)) ∙ ap (λ n. n % p) (omega (arith, e)) ∙ mod-eq_of_lt h), sym (le-leb p s (omega (arith, e))))
sum_left p s r false h e = (sym (ap (λ n. n % p) (omega (arith, e)) ∙ mod-eq_of_lt h), sym (lt-leb p s (omega (arith, e, h))))

difference_left : (p a b r : ℕ) (d : Bool) → r < p → r + b ≡ a + pick d p 0 → (r ≡ (p + a - b) % p) × (d ≡ ltb a b)
unfolding pick
difference_left p a b r true h e =
    let q : p + a - b ≡ r = omega (arith, e) in
    (sym (ap (λ n. n % p) q ∙ mod-eq_of_lt h), sym (lt-ltb a b (omega (arith, e, h))))
difference_left p a b r false h e =
    let q : p + a - b - p ≡ r = omega (arith, e) in
    (sym (mod-eq-sub-mod (omega (arith, e)) ∙ ap (λ n. n % p) q ∙ mod-eq_of_lt h), sym (le-ltb a b (omega (arith, e))))

module _ (w : ℕ) (x y : DoubleWord) (n : ℕ) (p : AreWords w x) (q : AreWords w y) where
  abbrev m : ℕ
  m = 2 ^ w

  some : 0 < m
  some = pow_pos w

  -- what an operation leaves is a word
  cut : (high low : ℕ) → AreWords w (double_word (high % m) (low % m))
  cut high low = record { high_is_word = mod-lt high some; low_is_word = mod-lt low some }

  below : (z : DoubleWord) → AreWords w z → number w z < square w
  below z h = two_below m some z.high z.low h.high_is_word h.low_is_word

  gives_sum : Gives w adding x y n
  unfolding alu_of add_of
  gives_sum =
      let s = x.low + y.low + 0 in
      let c = leb m s in
      let t = x.high + y.high + one c in
      let z = double_word (t % m) (s % m) in
      let l = sum_exact m some s (omega (arith, p.low_is_word, q.low_is_word)) in
      let h = sum_exact m some t (omega (arith, p.high_is_word, q.high_is_word, one_le c)) in
      let e =
      two_exact m some x.high x.low y.high y.low z.high z.low c (leb m t) (omega (arith, l)) (omega (arith, h)) in
      let r = sum_left (square w) (number w x + number w y) (number w z) (leb m t) (below z (cut t s)) e in
      record { words = cut t s; sum = r.0; flag = ap one r.1 }

  less : (a b c : ℕ) → a < m → b < m → c ≤ 1 → Exact m some (difference w a b c + (b + c)) a (ltb a (b + c))
  unfolding difference
  less a b c h k l = difference_exact m some _ a (b + c) h (omega (arith, k, l)) (omega (arith, k, l))

  gives_difference : Gives w subtracting x y n
  unfolding alu_of sub_of difference
  gives_difference =
      let c = ltb x.low (y.low + 0) in
      let d = ltb x.high (y.high + one c) in
      let z = double_word (difference w x.high y.high (one c)) (difference w x.low y.low 0) in
      let k : AreWords w z = cut _ _ in
      let l = less x.low y.low 0 p.low_is_word q.low_is_word (omega arith) in
      let h = less x.high y.high (one c) p.high_is_word q.high_is_word (one_le c) in
      let e = two_exact m some z.high z.low y.high y.low x.high x.low c d (omega (arith, l)) h in
      let r = difference_left (square w) (number w x) (number w y) (number w z) d (below z k) e in
      record { words = k; sum = r.0; flag = ap one r.1 }

pub double_sums : DoubleSums
double_sums w adding x y n p q = gives_sum w x y n p q
double_sums w subtracting x y n p q = gives_difference w x y n p q
