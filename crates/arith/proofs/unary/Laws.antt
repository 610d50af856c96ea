-- Leading zeros: reading down from the top bit counts what the machine's operation does.
-- Assumes nothing.
use Rattle.std.proofs.Common.{◌≡◌, ℕ, zero, suc, ◌+◌, ◌-◌, ◌*◌, ◌/◌, ◌^◌, ◌<◌, ◌≤◌, sym, refl, le_trans, pow-suc, lt_of_not-le, arith, pow_mono, shr_lt, le-leb}
use native.Mathlib.Decide.{dec_le}
use borrow.Author.Tests.{lt-leb}
use lib.Count.{count_leading_zeros, leading_unique}
use Rattle.laws.specs.Choice.{pick}
use Rattle.arith.specs.Unary.{leading_zero_bits}

zeros_lead : (k a : ℕ) → a < 2 ^ k → (m : ℕ) × (leading_zero_bits k a + m ≡ k) × (a < 2 ^ m) × (2 ^ m ≤ 2 * a + 1)
unfolding leading_zero_bits pick
zeros_lead zero a h = (zero, refl, h, omega arith)
zeros_lead (suc k) a h = go (λ p. zeros_lead k a p) (dec_le (2 ^ k) a)
  where
    go : (a < 2 ^ k → (m : ℕ) × (leading_zero_bits k a + m ≡ k) × (a < 2 ^ m) × (2 ^ m ≤ 2 * a + 1))
        → Dec (2 ^ k ≤ a) → (m : ℕ) × (leading_zero_bits (suc k) a + m ≡ suc k) × (a < 2 ^ m) × (2 ^ m ≤ 2 * a + 1)
    go rest (yes p) = rw (le-leb (2 ^ k) a p) (suc k, omega arith, h, omega (arith, pow-suc 2 k))
    go rest (no q) =
        let p : a < 2 ^ k = lt_of_not-le q in
        let r = rest p in
        rw (lt-leb (2 ^ k) a p) (r.0, omega (arith, r.1), r.2, r.3)

pub zeros_code : (k a : ℕ) → a < 2 ^ k → count_leading_zeros k a ≡ leading_zero_bits k a
zeros_code k a h = let r = zeros_lead k a h in sym (leading_unique k a (leading_zero_bits k a) r.0 r.1 r.2 r.3)

pub top_half : (w a : ℕ) → a < 2 ^ w → a / 2 ^ (w - 16) < 2 ^ 16
top_half w a h = shr_lt 16 (w - 16) (le_trans h (pow_mono {i = w} {j = 16 + (w - 16)} (omega arith)))
