-- Double-length sums: document 02, K8. "State once over the width: with flags updated, ADD of the low words, then ADDC of the high words with N as it left it,
-- gives the two-word sum modulo the square of 2^W, and N is its carry. The same for SUB, SUBC and the borrow. This is about the word operations, so registers
-- that coincide do not enter."
use Rattle.std.specs.Prelude.{◌≡◌, ℕ, ◌+◌, ◌-◌, ◌*◌, ◌%◌, ◌^◌, ◌<◌, Bool, nat_le, nat_lt}
use Rattle.words.specs.declared.Operation.{Operation}
use Rattle.words.specs.declared.Operation.TheVariants.{Add, Addc, Sub, Subc}
use Rattle.arith.specs.declared.Word.{Word}
use Rattle.arith.specs.Width.{one}
use Rattle.arith.specs.Alu.{alu_of}

-- two words, and the number that they are at width w
pub record DoubleWord : Type 0 where
  pub high : ℕ
  pub low : ℕ

abbrev pub double_word : ℕ → ℕ → DoubleWord
double_word high low = record { high = high; low = low }

abbrev pub number : ℕ → DoubleWord → ℕ
number w x = x.high * 2 ^ w + x.low

-- both are words of w bits
pub record AreWords (w : ℕ) (x : DoubleWord) : Type 0 where
  pub high_is_word : x.high < 2 ^ w
  pub low_is_word : x.low < 2 ^ w

-- "ADD of the low words, then ADDC of the high words", "The same for SUB, SUBC"
pub data Direction : Type 0 where
  adding : Direction
  subtracting : Direction

abbrev pub on_low : Direction → Operation
on_low adding = Add
on_low subtracting = Sub

abbrev pub on_high : Direction → Operation
on_high adding = Addc
on_high subtracting = Subc

-- "the two-word sum modulo the square of 2^W", and the difference, of numbers below the square
abbrev pub square : ℕ → ℕ
square w = 2 ^ w * 2 ^ w

abbrev pub total : ℕ → Direction → DoubleWord → DoubleWord → ℕ
total w adding x y = (number w x + number w y) % square w
total w subtracting x y = (square w + number w x - number w y) % square w

-- "its carry", "and the borrow"
abbrev pub carry : ℕ → Direction → DoubleWord → DoubleWord → Bool
carry w adding x y = nat_le (square w) (number w x + number w y)
carry w subtracting x y = nat_lt (number w x) (number w y)

module _ (w : ℕ) (o : Direction) (x y : DoubleWord) (n : ℕ) where
  -- the operation on the low words, whatever N was before; then that on the high words, "with N as it left it"
  abbrev pub low_word : Word
  low_word = alu_of w (on_low o) x.low y.low n

  abbrev pub high_word : Word
  high_word = alu_of w (on_high o) x.high y.high low_word.n

  abbrev pub both : DoubleWord
  both = double_word high_word.value low_word.value

  pub record Gives : Type 0 where
    -- "gives the two-word sum modulo the square of 2^W"
    pub words : AreWords w both
    pub sum : number w both ≡ total w o x y
    -- "and N is its carry"; Z is that of the high word alone, and nothing is said of it
    pub flag : high_word.n ≡ one (carry w o x y)

-- at every width, in both directions, of operands that are words, whatever N was
abbrev pub DoubleSums : Type 0
DoubleSums = (w : ℕ) (o : Direction) (x y : DoubleWord) (n : ℕ) → AreWords w x → AreWords w y → Gives w o x y n
