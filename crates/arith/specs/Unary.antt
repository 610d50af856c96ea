-- ABS and CLZ (5.2.4, 5.2.5). N is the source's top bit.
use Rattle.std.specs.Prelude.{ℕ, zero, suc, ◌-◌, ◌/◌, ◌^◌, ◌==◌, nat_le}
use Rattle.laws.specs.Choice.{pick}
use Rattle.arith.specs.Width.{one, top, word_of}
use Rattle.arith.specs.declared.Word.{Word}

unfoldable pub abs_of : ℕ → ℕ → Word
abs_of w a = word_of (pick (top w a) (2 ^ w - a) a) (one (top w a))

-- how many of the k bits of a number below 2 ^ k are zero before the first that is set, read down from the top
unfoldable pub leading_zero_bits : ℕ → ℕ → ℕ
leading_zero_bits zero a = 0
leading_zero_bits (suc k) a = pick (nat_le (2 ^ k) a) 0 (suc (leading_zero_bits k a))

-- "CLZ counts in the 16 top bits, 0 to 16; Z is set at 16". Level 1 needs w ≥ 16; below that the word counts as 16 bits
unfoldable pub clz_of : ℕ → ℕ → Word
clz_of w a = let k = leading_zero_bits 16 (a / 2 ^ (w - 16)) in record { value = k; z = one (k == 16); n = one (top w a) }
