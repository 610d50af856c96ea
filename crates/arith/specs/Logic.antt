-- AND, OR, XOR (5.1.2). "Logic sets Z only": N stays n. TST is AND with nothing written.
use Rattle.std.specs.Prelude.{ℕ, bit_and, bit_or, bit_xor}
use Rattle.arith.specs.Width.{word_of}
use Rattle.arith.specs.declared.Word.{Word}

unfoldable pub and_of : ℕ → ℕ → ℕ → Word
and_of a b n = word_of (bit_and a b) n

unfoldable pub or_of : ℕ → ℕ → ℕ → Word
or_of a b n = word_of (bit_or a b) n

unfoldable pub xor_of : ℕ → ℕ → ℕ → Word
xor_of a b n = word_of (bit_xor a b) n
