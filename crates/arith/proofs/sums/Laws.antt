-- Sums and differences: what the code computes at 32 bits and cuts to w is the definition at w.
-- Assumes nothing.
use Rattle.std.proofs.Common.{◌≡◌, ℕ, zero, suc, ◌+◌, ◌-◌, ◌*◌, ◌%◌, ◌^◌, ◌<◌, ◌≤◌, Bool, true, false, cond, ltb, leb, leb-true, leb-false, pos, negsuc, ◌-ℤ◌, sym, refl, ap, ◌∙◌, zero-le, le_trans, add-zero, one-mul, pow-add, pow-suc, lt_of_not-le, sub-add_cancel, add-one, arith, lit≤, pow_pos, le-ltb, lt-ltb, le-leb}
use native.Mathlib.Nat.{mod-add-mod, mul-add-mod_self_right}
use native.Mathlib.Decide.{dec_le}
use borrow.Author.Tests.{lt-leb}
use lib.IntN.{sub_ℕ}
use lib.Pow.{high_ones}
use lib.Bits.{bit_xor, xor_block, xor_zero_r}
use Rattle.laws.specs.Choice.{pick}
use Rattle.arith.specs.Width.{Words, half, top}
use Rattle.arith.specs.Sums.{difference, signed, negative}
use Rattle.arith.proofs.width.Laws.{flag_is, twice, low_low, power_most}

pub sum_code : (w a b c : ℕ) → w ≤ 32 → ((a + b) % 2 ^ 32 + c) % 2 ^ 32 % 2 ^ w ≡ (a + b + c) % 2 ^ w
sum_code w a b c h = ap (λ (k : ℕ). k % 2 ^ w) (mod-add-mod (a + b) (2 ^ 32) c) ∙ low_low (a + b + c) w h

-- 2 ^ 32 less 2 ^ w is a multiple of 2 ^ w
span : (w : ℕ) → w ≤ 32 → 2 ^ 32 - 2 ^ w ≡ (2 ^ (32 - w) - 1) * 2 ^ w
span w h = ap (λ (k : ℕ). 2 ^ k - 2 ^ w) (sym (sub-add_cancel h)) ∙ high_ones (32 - w) w

-- the difference at 32 bits, cut to w, is the difference at w: each subtraction adds 2 ^ 32, a multiple of 2 ^ w
pub subtract_code : (w a b c : ℕ) → w ≤ 32 → b < 2 ^ w → c ≤ 1 → ((a + (2 ^ 32 - b)) % 2 ^ 32 + (2 ^ 32 - c)) % 2 ^ 32 % 2 ^ w ≡ difference w a b c
unfolding difference
subtract_code w a b c h l k =
    let all : 2 ^ 32 ≡ 2 ^ (32 - w) * 2 ^ w = ap (λ (n : ℕ). 2 ^ n) (sym (sub-add_cancel h)) ∙ pow-add 2 (32 - w) w in
    sum_code w a (2 ^ 32 - b) (2 ^ 32 - c) h
    ∙ ap (λ (n : ℕ). n % 2 ^ w) (omega (arith, power_most w h, span w h, all, l))
    ∙ mul-add-mod_self_right (2 ^ (32 - w) - 1) (2 ^ w) (2 ^ (32 - w) * 2 ^ w + (2 ^ w + a - (b + c)))
    ∙ mul-add-mod_self_right (2 ^ (32 - w)) (2 ^ w) (2 ^ w + a - (b + c))

-- flipping the top bit of k + 1 bits
pub flip : (k a : ℕ) → a < 2 ^ suc k → bit_xor a (2 ^ k) ≡ pick (leb (2 ^ k) a) (a - 2 ^ k) (a + 2 ^ k)
unfolding pick
flip k a h = go (dec_le (2 ^ k) a)
  where
    two : 2 ^ suc k ≡ 2 ^ k * 2
    two = pow-suc 2 k

    -- a is t times 2 ^ k and r
    split : (t r : ℕ) → a ≡ t * 2 ^ k + r → r < 2 ^ k → bit_xor a (2 ^ k) ≡ bit_xor t 1 * 2 ^ k + r
    split t r e hr =
        ap (λ (x : ℕ). bit_xor x (2 ^ k)) e
        ∙ ap (λ (x : ℕ). bit_xor (t * 2 ^ k + r) x) (sym (add-zero (1 * 2 ^ k) ∙ one-mul (2 ^ k)))
        ∙ xor_block k t 1 r zero hr (pow_pos k)
        ∙ ap (λ (x : ℕ). bit_xor t 1 * 2 ^ k + x) (xor_zero_r r)

    go : Dec (2 ^ k ≤ a) → bit_xor a (2 ^ k) ≡ pick (leb (2 ^ k) a) (a - 2 ^ k) (a + 2 ^ k)
    go (yes p) = rw (le-leb (2 ^ k) a p) (split 1 (a - 2 ^ k) (omega arith) (omega (arith, two)) ∙ omega arith)
    go (no q) =
        let p : a < 2 ^ k = lt_of_not-le q in
        rw (lt-leb (2 ^ k) a p) (split 0 a (omega arith) p ∙ omega arith)

-- the top bit of a w-bit word, flipped, raises its signed value by 2 ^ (w - 1)
pub raised : ℕ → ℕ → ℕ
unfolding pick
raised w a = pick (top w a) (a - half w) (a + half w)

pub raise_code : (w a : ℕ) → 8 ≤ w → a < 2 ^ w → bit_xor a (half w) ≡ raised w a
unfolding raised
raise_code w a h l = flip (w - 1) a (rw (← add-one (w - 1), sub-add_cancel {n = w} {m = 1} (le_trans (lit≤ tt) h)) l)

-- a half word with its top bit flipped, less 2 ^ 15, is the word sign extended
pub signed_code : (v : ℕ) → v < 65536 → (bit_xor v 32768 + (2 ^ 32 - 32768)) % 2 ^ 32 ≡ pick (leb 32768 v) (v + 0xffff0000) v
unfolding raised pick
signed_code v h = rw (raise_code 16 v (omega arith) h) (go (leb 32768 v) refl)
  where
    go : (t : Bool) → leb 32768 v ≡ t → (pick t (v - 32768) (v + 32768) + (2 ^ 32 - 32768)) % 2 ^ 32 ≡ pick t (v + 0xffff0000) v
    go true q = omega (arith, leb-true 32768 v q)
    go false q = omega (arith, leb-false 32768 v q)

-- two tests that say the same
same_test : (a b c d : ℕ) → (a < b → c < d) → (c < d → a < b) → ltb a b ≡ ltb c d
same_test a b c d f g = go (dec_le (suc a) b)
  where
    go : Dec (a < b) → ltb a b ≡ ltb c d
    go (yes p) = lt-ltb a b p ∙ sym (lt-ltb c d (f p))
    go (no q) =
        let r : c < d → ⊥ = λ l. q (g l) in
        le-ltb a b (omega arith) ∙ sym (le-ltb c d (omega arith))

-- the sign of a difference, by the signs of the two
negative_sub : (x y : ℕ) → negative (sub_ℕ x y) ≡ ltb x y
negative_sub x y = go (ltb x y)
  where
    go : (b : Bool) → negative (cond b (negsuc (y - suc x)) (pos (x - y))) ≡ b
    go true = refl
    go false = refl

pos_pos : (a b : ℕ) → negative (pos a -ℤ pos b) ≡ ltb a b
pos_pos a zero = sym (le-ltb a 0 zero-le)
pos_pos a (suc b) = negative_sub a (suc b)

neg_pos : (p b : ℕ) → negative (negsuc p -ℤ pos b) ≡ true
neg_pos p zero = negative_sub 0 (suc p) ∙ lt-ltb 0 (suc p) (omega arith)
neg_pos p (suc b) = refl

below : (a m : ℕ) → a < m → sub_ℕ a m ≡ negsuc (m - suc a)
below a m h = rw (lt-ltb a m h)

-- the two raised words compare as the sign of the exact signed difference says
pub sign_code : (w a b : ℕ) → Words w a b → ltb (raised w a) (raised w b) ≡ negative (signed w a -ℤ signed w b)
unfolding raised signed pick
sign_code w a b h = go (dec_le (half w) a) (dec_le (half w) b)
  where
    two : 2 ^ w ≡ 2 * half w
    two = twice w h.width.least

    go : Dec (half w ≤ a) → Dec (half w ≤ b) → ltb (raised w a) (raised w b) ≡ negative (signed w a -ℤ signed w b)
    go (yes p) (yes q) =
        simp (le-leb _ _ p, le-leb _ _ q, below a (2 ^ w) h.left, below b (2 ^ w) h.right)
        (same_test (a - half w) (b - half w) (suc (2 ^ w - suc b)) (suc (2 ^ w - suc a)) (omega (arith, h.left, h.right)) (omega (arith, h.left, h.right))
        ∙ sym (negative_sub (suc (2 ^ w - suc b)) (suc (2 ^ w - suc a))))
    go (yes p) (no q) =
        let q' : b < half w = lt_of_not-le q in
        simp (le-leb _ _ p, lt-leb _ _ q', below a (2 ^ w) h.left) (lt-ltb (a - half w) (b + half w) (omega (arith, two, h.left)) ∙ sym (neg_pos (2 ^ w - suc a) b))
    go (no p) (yes q) =
        let p' : a < half w = lt_of_not-le p in
        simp (lt-leb _ _ p', le-leb _ _ q, below b (2 ^ w) h.right) (le-ltb (a + half w) (b - half w) (omega (arith, two, h.right)))
    go (no p) (no q) =
        let p' : a < half w = lt_of_not-le p in
        let q' : b < half w = lt_of_not-le q in
        simp (lt-leb _ _ p', lt-leb _ _ q') (same_test (a + half w) (b + half w) a b (omega arith) (omega arith) ∙ sym (pos_pos a b))

pub ruleset subs_laws = (flag_is, raise_code, sign_code)
