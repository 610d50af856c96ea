-- Bytes of a word.
-- Assumes nothing.
use Rattle.std.proofs.Common.{◌≡◌, ℕ, ◌+◌, ◌-◌, ◌*◌, ◌/◌, ◌%◌, ◌^◌, ◌<◌, ◌≤◌, sym, ap, ◌∙◌, le_trans, le_of_lt, mod-lt, mod-eq_of_lt, lt_of_not-le, sub-add_cancel, arith, pow_pos, pow_mono, pow-add, shl_exact, shr_lt, one-mul, le-leb}
use native.Mathlib.Nat.{div-eq_of_lt}
use native.Mathlib.Decide.{dec_le}
use borrow.Author.Tests.{lt-leb}
use lib.Arith.{digits_div}
use lib.Pow.{high_ones}
use lib.Bits.{bit_or, bit_xor, or_shifted}
use Rattle.laws.specs.Choice.{pick}
use Rattle.arith.specs.Sums.{difference}
use Rattle.arith.specs.Bytes.{extended, SignExtended}
use Rattle.arith.proofs.width.Laws.{low_low, wrapped}
use Rattle.arith.proofs.sums.Laws.{flip}

-- the bytes above byte k with the new byte, and those below it
pub bst_code : (k d b : ℕ) → k < 4 → d < 2 ^ 32 → b < 256
    → bit_or ((d / 2 ^ (8 * k) / 256 * 256 + b) * 2 ^ (8 * k) % 2 ^ 32) (d % (1 * 2 ^ (8 * k) % 2 ^ 32))
    ≡ (d / 2 ^ (8 * k) / 256 * 256 + b) * 2 ^ (8 * k) + d % 2 ^ (8 * k)
bst_code k d b h l hb =
    let room : 2 ^ (32 - 8 * k) ≡ 2 ^ (24 - 8 * k) * 256 = ap (λ (x : ℕ). 2 ^ x) (omega arith) ∙ pow-add 2 (24 - 8 * k) 8 in
    let high : d / 2 ^ (8 * k) < 2 ^ (32 - 8 * k) = shr_lt (32 - 8 * k) (8 * k) (le_trans l (pow_mono {i = 32} {j = 32 - 8 * k + 8 * k} (omega arith))) in
    let one : 1 * 2 ^ (8 * k) % 2 ^ 32 ≡ 2 ^ (8 * k) = shl_exact {a = 1} 1 (8 * k) 32 (omega arith) (omega arith) ∙ one-mul (2 ^ (8 * k)) in
    rw (one, shl_exact {a = d / 2 ^ (8 * k) / 256 * 256 + b} (32 - 8 * k) (8 * k) 32 (omega (arith, room, high)) (omega arith))
    (or_shifted (d / 2 ^ (8 * k) / 256 * 256 + b) (8 * k) (d % 2 ^ (8 * k)) (mod-lt d (pow_pos (8 * k))))

-- a byte is a word
pub byte_room : (w : ℕ) → 8 ≤ w → 256 ≤ 2 ^ w
byte_room w h = pow_mono {i = 8} h

-- 2 ^ w - 128 more at 32 bits, cut to w, is 128 less at w
pub less_code : (w x : ℕ) → 8 ≤ w → w ≤ 32 → (x + (2 ^ w - 128)) % 2 ^ 32 % 2 ^ w ≡ difference w x 128 0
unfolding difference
less_code w x h k = low_low (x + (2 ^ w - 128)) w k ∙ ap (λ (n : ℕ). n % 2 ^ w) (omega (arith, byte_room w h))

-- BLDS is the byte sign extended, whatever the width: by its top bit, the difference is the byte, or the byte and 256 less than 2 ^ w
pub sign_extended : (w b : ℕ) → 8 ≤ w → b < 256 → SignExtended w b (extended w b)
unfolding extended difference pick
sign_extended w b h l = go (dec_le 128 b)
  where
    room : 2 ^ w ≡ 2 ^ (w - 8) * 256
    room = ap (λ (k : ℕ). 2 ^ k) (sym (sub-add_cancel h)) ∙ pow-add 2 (w - 8) 8

    -- where 256 is taken off 2 ^ w and a byte is added, the bits above the byte are ones
    ones : (i : ℕ) → 8 ≤ i → i < w → (2 ^ w - 256 + b) / 2 ^ i % 2 ≡ 1
    ones i f g =
        let top : 2 ^ w - 2 ^ i ≡ (2 ^ (w - i) - 1) * 2 ^ i = ap (λ (k : ℕ). 2 ^ k - 2 ^ i) (sym (sub-add_cancel (le_of_lt g))) ∙ high_ones (w - i) i in
        let odd : 2 ^ (w - i) ≡ 2 ^ (w - i - 1) * 2 = ap (λ (k : ℕ). 2 ^ k) (sym (sub-add_cancel {n = w - i} {m = 1} (omega arith))) ∙ pow-add 2 (w - i - 1) 1 in
        let less : 2 ^ i ≤ 2 ^ w = pow_mono (le_of_lt g) in
        let split : 2 ^ w - 256 + b ≡ (2 ^ (w - i) - 1) * 2 ^ i + (2 ^ i - 256 + b) = omega (arith, top, less, byte_room i f) in
        ap (λ (k : ℕ). k / 2 ^ i % 2) split ∙ ap (λ (k : ℕ). k % 2) (digits_div (2 ^ (w - i) - 1) (omega (arith, byte_room i f))) ∙ omega (arith, odd, pow_pos (w - i - 1))

    go : Dec (128 ≤ b) → SignExtended w b ((2 ^ w + bit_xor b 128 - (128 + 0)) % 2 ^ w)
    go (yes p) =
        let x : bit_xor b 128 ≡ b - 128 = flip 7 b l ∙ simp (le-leb 128 b p) in
        let t : b / 128 ≡ 1 = omega arith in
        let v : (2 ^ w + bit_xor b 128 - (128 + 0)) % 2 ^ w ≡ 2 ^ w - 256 + b =
        rw x (ap (λ (k : ℕ). k % 2 ^ w) (omega (arith, room, pow_pos (w - 8))) ∙ mod-eq_of_lt (omega (arith, room, pow_pos (w - 8)))) in
        record {
          sum = rw (v, t) (omega (arith, room, pow_pos (w - 8)));
          copies = λ i f g. rw (v, t) (ones i f g);
        }
    go (no q) =
        let p : b < 128 = lt_of_not-le q in
        let x : bit_xor b 128 ≡ b + 128 = flip 7 b l ∙ simp (lt-leb 128 b p) in
        let t : b / 128 ≡ 0 = omega arith in
        let v : (2 ^ w + bit_xor b 128 - (128 + 0)) % 2 ^ w ≡ b = rw x (wrapped 1 (omega arith) (omega (arith, room, pow_pos (w - 8)))) in
        record {
          sum = rw (v, t) (omega arith);
          copies = λ i f g. rw (v, t) (ap (λ (k : ℕ). k % 2) (div-eq_of_lt (le_trans l (byte_room i f))));
        }

pub ruleset blds_laws = (byte_room, less_code, sign_extended)
