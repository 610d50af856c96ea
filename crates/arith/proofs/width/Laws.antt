-- Flags, powers of two and words cut to a width.
-- Assumes nothing.
use Rattle.std.proofs.Common.{◌≡◌, ℕ, ◌+◌, ◌-◌, ◌*◌, ◌%◌, ◌^◌, ◌<◌, ◌≤◌, Bool, true, false, refl, sym, ap, ◌∙◌, mod-eq_of_lt, mul_comm, pow-suc, sub-add_cancel, add-one, arith, pow_mono}
use Rattle.std.specs.Int.{from_bool}
use native.Mathlib.Nat.{mul-add-mod_self_right}
use lib.Pow.{mod-mod-pow}
use Rattle.laws.specs.Choice.{pick}
use Rattle.arith.specs.Width.{half, one}

-- the number of a test is its flag
pub flag_is : (b : Bool) → from_bool b ≡ one b
unfolding one pick
flag_is true = refl
flag_is false = refl

-- 2 ^ w is twice the weight of the top bit
pub twice : (w : ℕ) → 8 ≤ w → 2 ^ w ≡ 2 * half w
twice w h = ap (λ (k : ℕ). 2 ^ k) (sym (sub-add_cancel {n = w} {m = 1} (omega arith)) ∙ add-one (w - 1)) ∙ pow-suc 2 (w - 1) ∙ mul_comm (half w) 2

-- 2 ^ 32 is a multiple of 2 ^ w, so the low w bits of a 32-bit number are those of what it was cut from
pub low_low : (x w : ℕ) → w ≤ 32 → x % 2 ^ 32 % 2 ^ w ≡ x % 2 ^ w
low_low x w h = ap (λ (k : ℕ). x % 2 ^ k % 2 ^ w) (sym (sub-add_cancel h)) ∙ mod-mod-pow x (32 - w) w

pub power_most : (w : ℕ) → w ≤ 32 → 2 ^ w ≤ 2 ^ 32
power_most w h = pow_mono h

-- q times m and a rest, cut to the rest
pub wrapped : (q : ℕ) {m r x : ℕ} → x ≡ q * m + r → r < m → x % m ≡ r
wrapped q {m} {r} {x} e h = ap (λ (k : ℕ). k % m) e ∙ mul-add-mod_self_right q m r ∙ mod-eq_of_lt h
