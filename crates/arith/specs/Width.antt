-- Words of w bits, as numbers below 2 ^ w, and flags as the numbers 0 and 1.
use Rattle.std.specs.Prelude.{ℕ, ◌-◌, ◌^◌, ◌<◌, ◌≤◌, Bool, ◌==◌, nat_le}
use Rattle.laws.specs.Choice.{pick}
use Rattle.arith.specs.declared.Word.{Word}

-- the width that a number asks for: 8, 16, and 32 for any other. REG_WIDTH of a lawful configuration is one of the three
unfoldable pub bits : ℕ → ℕ
bits n = pick (n == 8) 8 (pick (n == 16) 16 32)

-- what the laws ask of a width
pub record Width (w : ℕ) : Type 0 where
  pub least : 8 ≤ w
  pub most : w ≤ 32

-- two words of w bits
pub record Words (w a b : ℕ) : Type 0 where
  pub width : Width w
  pub left : a < 2 ^ w
  pub right : b < 2 ^ w

-- the flag that a test sets
unfoldable pub one : Bool → ℕ
one b = pick b 1 0

-- the weight of the top bit (the manual's MSbit), and whether it is set
abbrev pub half : ℕ → ℕ
half w = 2 ^ (w - 1)

abbrev pub top : ℕ → ℕ → Bool
top w a = nat_le (half w) a

-- a result whose Z says that it is zero (4.5)
abbrev pub word_of : ℕ → ℕ → Word
word_of v n = record { value = v; z = one (v == 0); n = n }

-- a result whose flags two tests set
abbrev pub flagged : ℕ → Bool → Bool → Word
flagged v z n = record { value = v; z = one z; n = one n }
