-- Shifts and rotates: what the code computes is the definition.
-- Assumes nothing.
use Rattle.std.proofs.Common.{◌≡◌, ℕ, ◌+◌, ◌-◌, ◌*◌, ◌/◌, ◌%◌, ◌^◌, ◌<◌, ◌≤◌, sym, ap, ◌∙◌, le_trans, le_of_lt, mod-lt, add_comm, lt_of_not-le, sub-add_cancel, arith, pow_pos, pow_mono, shl_exact, shr_lt}
use native.Mathlib.Nat.{div-eq_of_lt}
use native.Mathlib.Decide.{dec_le}
use lib.Pow.{high, shr_le, shr_mono, ones_split, ones_lt}
use lib.Bits.{bit_or, or_shifted}
use Rattle.arith.specs.Width.{half}
use Rattle.arith.proofs.width.Laws.{power_most}

pred_suc : (w : ℕ) → 8 ≤ w → w - 1 + 1 ≡ w
pred_suc w h = omega arith

pub rotl_code : (w a : ℕ) → 8 ≤ w → w ≤ 32 → a < 2 ^ w → bit_or (a % half w * 2 ^ 1 % 2 ^ 32) (a / half w) ≡ a % half w * 2 + a / half w
rotl_code w a p q h =
    ap (λ (x : ℕ). bit_or x (a / half w)) (shl_exact (w - 1) 1 32 (mod-lt a (pow_pos (w - 1))) (omega arith))
    ∙ or_shifted (a % half w) 1 (a / half w) (shr_lt 1 (w - 1) (rw (add_comm 1 (w - 1), pred_suc w p) h))

pub rotr_code : (w a : ℕ) → 8 ≤ w → w ≤ 32 → a < 2 ^ w → bit_or (a % 2 * half w % 2 ^ 32) (a / 2) ≡ a % 2 * half w + a / 2
rotr_code w a p q h =
    ap (λ (x : ℕ). bit_or x (a / 2)) (shl_exact 1 (w - 1) 32 (omega arith) (omega arith))
    ∙ or_shifted (a % 2) (w - 1) (a / 2) (shr_lt (w - 1) 1 (rw (pred_suc w p) h))

-- all ones, shifted right by k: w - k ones are left
ones_shr : (w k : ℕ) → (2 ^ w - 1) / 2 ^ k ≡ 2 ^ (w - k) - 1
ones_shr w k = go (dec_le k w)
  where
    go : Dec (k ≤ w) → (2 ^ w - 1) / 2 ^ k ≡ 2 ^ (w - k) - 1
    go (yes p) =
        ap (λ (x : ℕ). (2 ^ x - 1) / 2 ^ k) (sym (sub-add_cancel p))
        ∙ ap (λ (x : ℕ). x / 2 ^ k) (ones_split (w - k) k)
        ∙ high (2 ^ (w - k) - 1) k (ones_lt k)
    go (no q) =
        let p : w < k = lt_of_not-le q in
        let e : w - k ≡ 0 = omega arith in
        div-eq_of_lt (le_trans (ones_lt w) (pow_mono (le_of_lt p))) ∙ rw e

pub shra_code : (w k : ℕ) → 2 ^ w - 1 - (2 ^ w - 1) / 2 ^ k ≡ 2 ^ w - 2 ^ (w - k)
shra_code w k = rw (ones_shr w k) (omega (arith, pow_pos w, pow_pos (w - k)))

pub shra_fits : (p a k : ℕ) → a < p → p - 1 - (p - 1) / 2 ^ k + a / 2 ^ k < p
shra_fits p a k h =
    let l : a ≤ p - 1 = omega arith in
    omega (arith, shr_mono k l, shr_le (p - 1) k)

pub ruleset shra_laws = (power_most, shra_code, shra_fits)
