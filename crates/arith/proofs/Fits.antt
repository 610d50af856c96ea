-- Every result is a word again and every flag 0 or 1, once over the width: what the machine's record keeps to.
-- Assumes nothing.
use Rattle.std.proofs.Common.{◌≡◌, ℕ, zero, suc, ◌+◌, ◌-◌, ◌*◌, ◌/◌, ◌%◌, ◌^◌, ◌<◌, ◌≤◌, Bool, true, false, T, eqb, leb, inl, inr, zero-le, le_trans, lt_of_le_of_lt, le_of_lt, mul-le-mul_right, mod-lt, div-lt_iff_lt-mul, mul-le-mul, arith, lit≤, eqb→eq, leb→le, pow_pos, pow_mono, shr_lt}
use native.Mathlib.Nat.{mod-le, mul-lt-mul_of_pos_left}
use lib.Arith.{digits_lt}
use lib.Pow.{shr_le}
use lib.Bits.{and_lt, or_lt, xor_lt}
use borrow.Author.Tests.{lt-leb}
use Rattle.laws.specs.Choice.{pick, either}
use Rattle.laws.specs.Test.{Member}
use Rattle.words.specs.Configs.{widths}
use Rattle.arith.specs.Width.{bits, Width, Words, one, half, top}
use Rattle.arith.specs.Logic.{and_of, or_of, xor_of}
use Rattle.arith.specs.Sums.{add_of, difference, sub_of, subs_of}
use Rattle.arith.specs.Shifts.{shl_of, shr_of, shra_of, rotl_of, rotr_of}
use Rattle.arith.specs.Unary.{abs_of, leading_zero_bits, clz_of}
use Rattle.arith.specs.Bytes.{bst_of, bld_of, extended, blds_of}
use Rattle.arith.specs.Multiply.{mul_of}
use Rattle.arith.specs.Immediates.{extend_of, immediate_of}
use Rattle.arith.specs.Alu.{alu_of}
use Rattle.arith.specs.declared.Word.{Word}
use Rattle.arith.specs.declared.Product.{Product}
use Rattle.arith.proofs.width.Laws.{twice}
use Rattle.words.specs.declared.Form.{Form}
use Rattle.words.specs.declared.Form.TheVariants.{Signed, Unsigned, Shifted}
use Rattle.words.specs.declared.Operation.{Operation}
use Rattle.words.specs.declared.Operation.TheVariants.{And, Or, Xor, Add, Addc, Sub, Subc, Subs, Shl, Shr, Shra, Rotl, Rotr, Shl16, Abs, Clz, Bst, Bld, Blds}

-- a result of w bits, with flags
pub record Fits (w : ℕ) (r : Word) : Type 0 where
  pub word : r.value < 2 ^ w
  pub zero_flag : r.z ≤ 1
  pub negative_flag : r.n ≤ 1

-- what is below m in both cases is below m
under : (m : ℕ) (b : Bool) (x y : ℕ) → (T b → x < m) → (y < m) → pick b x y < m
under m b x y p q = either (λ (v : ℕ). v < m) b x y p (λ f. q)

pub one_le : (b : Bool) → one b ≤ 1
unfolding one pick
one_le true = lit≤ tt
one_le false = lit≤ tt

zeros_le : (k a : ℕ) → leading_zero_bits k a ≤ k
unfolding leading_zero_bits
zeros_le zero a = lit≤ tt
zeros_le (suc k) a =
    let h = zeros_le k a in
    either (λ (v : ℕ). v ≤ suc k) (leb (2 ^ k) a) 0 (suc (leading_zero_bits k a)) (λ t. zero-le) (λ f. omega arith)

-- a word with two flags that tests set, and with N as it was
flagged : {w v : ℕ} (b c : Bool) → v < 2 ^ w → Fits w (record { value = v; z = one b; n = one c })
flagged b c h = record { word = h; zero_flag = one_le b; negative_flag = one_le c }

kept : {w v n : ℕ} (b : Bool) → v < 2 ^ w → n ≤ 1 → Fits w (record { value = v; z = one b; n = n })
kept b h f = record { word = h; zero_flag = one_le b; negative_flag = f }

module _ (w d s : ℕ) (h : Words w d s) where
  cut : (x : ℕ) → x % 2 ^ w < 2 ^ w
  cut x = mod-lt x (pow_pos w)

  -- a byte is a word
  room : 2 ^ 8 ≤ 2 ^ w
  room = pow_mono h.width.least

  two : 2 ^ w ≡ 2 * half w
  two = twice w h.width.least

  -- the k bits that come in are ones or zeros, and what is left of d has w - k bits
  shra_fits : (k : ℕ) → pick (top w d) (2 ^ w - 2 ^ (w - k)) 0 + d / 2 ^ k < 2 ^ w
  shra_fits k = either (λ (v : ℕ). v + d / 2 ^ k < 2 ^ w) (top w d) (2 ^ w - 2 ^ (w - k)) 0 (λ t. omega (arith, left, all)) (λ f. omega (arith, left, all))
    where
      left : d / 2 ^ k < 2 ^ (w - k)
      left = shr_lt (w - k) k (le_trans h.left (pow_mono {i = w} {j = w - k + k} (omega arith)))

      all : 2 ^ (w - k) ≤ 2 ^ w
      all = pow_mono {i = w - k} {j = w} (omega arith)

  -- of words and a flag
  alu_fits : (o : Operation) (n : ℕ) → n ≤ 1 → Fits w (alu_of w o d s n)
  unfolding alu_of and_of or_of xor_of add_of sub_of subs_of difference shl_of shr_of shra_of rotl_of rotr_of abs_of clz_of bst_of bld_of blds_of extended
  alu_fits And n f = kept _ (and_lt w d s h.left h.right) f
  alu_fits Or n f = kept _ (or_lt w d s h.left h.right) f
  alu_fits Xor n f = kept _ (xor_lt w d s h.left h.right) f
  alu_fits Add n f = flagged _ _ (cut _)
  alu_fits Addc n f = flagged _ _ (cut _)
  alu_fits Sub n f = flagged _ _ (cut _)
  alu_fits Subc n f = flagged _ _ (cut _)
  alu_fits Subs n f = flagged _ _ (cut _)
  alu_fits Shl n f = flagged _ _ (cut _)
  alu_fits Shr n f = flagged _ _ (lt_of_le_of_lt (shr_le d (s % 16)) h.left)
  alu_fits Shra n f = flagged _ _ (shra_fits (s % 16))
  alu_fits Rotl n f =
      let t : s / half w < 2 = shr_lt 1 (w - 1) (le_trans h.right (pow_mono {i = w} {j = 1 + (w - 1)} (omega arith))) in
      flagged _ _ (le_trans (digits_lt (mod-lt s (pow_pos (w - 1))) t) (omega (arith, two)))
  alu_fits Rotr n f =
      let t : s / 2 < half w = omega (arith, two, h.right) in
      flagged _ _ (le_trans (digits_lt {m = 2} (omega arith) t) (omega (arith, two)))
  alu_fits Shl16 n f = flagged _ _ (cut _)
  alu_fits Abs n f = flagged _ _ (under (2 ^ w) (top w s) (2 ^ w - s) s
      (λ t. let p : half w ≤ s = leb→le _ _ t in omega (arith, pow_pos (w - 1), pow_pos w)) h.right)
  alu_fits Clz n f = flagged _ _ (le_trans (omega (arith, zeros_le 16 (s / 2 ^ (w - 16)))) room)
  alu_fits (Bst k) n f = flagged _ _ (cut _)
  alu_fits (Bld k) n f = flagged _ _ (le_trans (omega arith) room)
  alu_fits (Blds k) n f = flagged _ _ (cut _)

-- a lawful REG_WIDTH is the width that is computed at
pub bits_lawful : (w : ℕ) → Member w widths → bits w ≡ w
unfolding bits pick
bits_lawful w (inl e) = rw e
bits_lawful w (inr (inl e)) = rw e
bits_lawful w (inr (inr e)) = rw e

-- whatever the number, its width is one that the laws take
pub bits_width : (n : ℕ) → Width (bits n)
unfolding bits pick
bits_width n = go (eqb n 8) (eqb n 16)
  where
    go : (b c : Bool) → Width (pick b 8 (pick c 16 32))
    go true c = record { least = lit≤ tt; most = lit≤ tt }
    go false true = record { least = lit≤ tt; most = lit≤ tt }
    go false false = record { least = lit≤ tt; most = lit≤ tt }

-- words cut to a width that a number asks for
cut_words : (width d s : ℕ) → Words (bits width) (d % 2 ^ bits width) (s % 2 ^ bits width)
cut_words width d s = record { width = bits_width width; left = mod-lt d (pow_pos (bits width)); right = mod-lt s (pow_pos (bits width)) }

-- what `alu` answers fits, whatever it is called with
pub answer_fits : (width d s n : ℕ) (o : Operation) → Fits (bits width) (alu_of (bits width) o (d % 2 ^ bits width) (s % 2 ^ bits width) (n % 2))
answer_fits width d s n o = alu_fits (bits width) (d % 2 ^ bits width) (s % 2 ^ bits width) (cut_words width d s) o (n % 2) (omega arith)

-- MUL's result of w bits, and what SPR7 takes: 0 above 16 bits
pub record ProductFits (w : ℕ) (p : Product) : Type 0 where
  pub word : p.value < 2 ^ w
  pub high_is_word : p.high < 2 ^ w
  pub high_none : 16 < w → p.high ≡ 0

mul_lt_mul : {x y m : ℕ} → x < m → y < m → x * y < m * m
mul_lt_mul {x} {y} {m} p q = lt_of_le_of_lt (mul-le-mul_right y (le_of_lt p)) (mul-lt-mul_of_pos_left q (lt_of_le_of_lt zero-le p))

product_fits : (w a b : ℕ) → a < 2 ^ w → b < 2 ^ w → ProductFits w (mul_of w a b)
unfolding mul_of pick
product_fits w a b ha hb = record {
  word = mod-lt _ (pow_pos w);
  high_is_word = under (2 ^ w) (leb w 16) _ _ (λ t. lt_of_le_of_lt (mod-le _ _) ((div-lt_iff_lt-mul (pow_pos w)).1 (lt_of_le_of_lt (mul-le-mul (mod-le a 65536) (mod-le b 65536)) (mul_lt_mul ha hb)))) (pow_pos w);
  high_none = λ h. rw (lt-leb w 16 h);
}

-- what `mul` answers fits
pub product_answer_fits : (width a b : ℕ) → ProductFits (bits width) (mul_of (bits width) (a % 2 ^ bits width) (b % 2 ^ bits width))
product_answer_fits width a b = product_fits (bits width) (a % 2 ^ bits width) (b % 2 ^ bits width) (mod-lt a (pow_pos (bits width))) (mod-lt b (pow_pos (bits width)))

immediate_fits : (w v : ℕ) (f : Form) → v < 65536 → immediate_of w f v < 2 ^ w
unfolding immediate_of extend_of
immediate_fits w v f h = under (2 ^ w) (eqb w 32) (extend_of f v) (v % 2 ^ w) (λ t. rw (eqb→eq w 32 t) (wide f)) (mod-lt v (pow_pos w))
  where
    wide : (g : Form) → extend_of g v < 2 ^ 32
    wide Signed = under (2 ^ 32) (leb 32768 v) (v + 0xffff0000) v (λ t. omega arith) (omega arith)
    wide Unsigned = omega arith
    wide Shifted = omega arith

-- what `immediate` answers fits
pub immediate_answer_fits : (width v : ℕ) (f : Form) → immediate_of (bits width) f (v % 65536) < 2 ^ bits width
immediate_answer_fits width v f = immediate_fits (bits width) (v % 65536) f (omega arith)
