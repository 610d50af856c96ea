-- Byte store and byte load (5.3.1 to 5.3.3), k the byte number. "Z, N from the source byte".
use Rattle.std.specs.Prelude.{◌≡◌, ℕ, ◌+◌, ◌-◌, ◌*◌, ◌/◌, ◌%◌, ◌^◌, ◌<◌, ◌≤◌, ◌==◌, bit_xor, nat_le}
use Rattle.arith.specs.Width.{one}
use Rattle.arith.specs.Sums.{difference}
use Rattle.arith.specs.declared.Word.{Word}

-- byte k of a word
abbrev pub byte : ℕ → ℕ → ℕ
byte k a = a / 2 ^ (8 * k) % 256

-- v with the flags of the source byte b
abbrev pub of_byte : ℕ → ℕ → Word
of_byte b v = record { value = v; z = one (b == 0); n = one (nat_le 128 b) }

-- BST: byte k of d becomes the low byte of s, and the others stay
unfoldable pub bst_of : ℕ → ℕ → ℕ → ℕ → Word
bst_of w k d s = of_byte (s % 256) (((d / 2 ^ (8 * k) / 256 * 256 + s % 256) * 2 ^ (8 * k) + d % 2 ^ (8 * k)) % 2 ^ w)

-- BLD: zeros above the byte
unfoldable pub bld_of : ℕ → ℕ → Word
bld_of k s = of_byte (byte k s) (byte k s)

-- BLDS, document 02, K3: "the byte with 128 flipped, less 128, at the word width"
unfoldable pub extended : ℕ → ℕ → ℕ
extended w b = difference w (bit_xor b 128) 128 0

unfoldable pub blds_of : ℕ → ℕ → ℕ → Word
blds_of w k s = of_byte (byte k s) (extended w (byte k s))

-- v is the byte b sign extended to w bits: "%dd<7:0>" is the byte, and each of the w - 8 bits above it is "%dd<7>", its top bit b / 128 (5.3.3)
pub record SignExtended (w b v : ℕ) : Type 0 where
  -- the top bit times w - 8 ones, above the byte
  pub sum : v ≡ b / 128 * (2 ^ (w - 8) - 1) * 256 + b
  -- and so bit i
  pub copies : (i : ℕ) → 8 ≤ i → i < w → v / 2 ^ i % 2 ≡ b / 128
