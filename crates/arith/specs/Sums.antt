-- ADD, ADDC, SUB, SUBC, SUBS (5.1.1). CMP and CMPS are SUB and SUBS with nothing written.
use Rattle.std.specs.Prelude.{ℕ, ◌+◌, ◌-◌, ◌%◌, ◌^◌, Bool, not, ℤ, pos, ◌-ℤ◌, nat_le, nat_lt}
use Rattle.std.proofs.Math.IntN.{sub_ℕ}
use Rattle.std.specs.Int.Signed.{non_neg}
use Rattle.laws.specs.Choice.{pick}
use Rattle.arith.specs.Width.{one, top, word_of}
use Rattle.arith.specs.declared.Word.{Word}

-- ADD, ADDC: c is the carry in, "N is the carry out"
unfoldable pub add_of : ℕ → ℕ → ℕ → ℕ → Word
add_of w a b c = word_of ((a + b + c) % 2 ^ w) (one (nat_le (2 ^ w) (a + b + c)))

-- a - b - c at the width
unfoldable pub difference : ℕ → ℕ → ℕ → ℕ → ℕ
difference w a b c = (2 ^ w + a - (b + c)) % 2 ^ w

-- SUB, SUBC: c is the borrow in, "N is the borrow" of the exact difference a - b - c
unfoldable pub sub_of : ℕ → ℕ → ℕ → ℕ → Word
sub_of w a b c = word_of (difference w a b c) (one (nat_lt a (b + c)))

-- the signed value of a word
unfoldable pub signed : ℕ → ℕ → ℤ
signed w a = pick (top w a) (sub_ℕ a (2 ^ w)) (pos a)

abbrev pub negative : ℤ → Bool
negative z = not (non_neg z)

-- SUBS: "N is the sign of the exact signed difference"
unfoldable pub subs_of : ℕ → ℕ → ℕ → Word
subs_of w a b = word_of (difference w a b 0) (one (negative (signed w a -ℤ signed w b)))
