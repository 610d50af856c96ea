-- Shifts by k, rotates by one; SHL16 is SHL by 16 (5.1.3, 5.2.1 to 5.2.3). "Z is 1 when the old MSbit (left) or LSbit (right)
-- is 0", whatever the count; N is the result's top bit.
use Rattle.std.specs.Prelude.{ℕ, ◌+◌, ◌-◌, ◌*◌, ◌/◌, ◌%◌, ◌^◌, not, ◌==◌}
use Rattle.laws.specs.Choice.{pick}
use Rattle.arith.specs.Width.{one, half, top}
use Rattle.arith.specs.declared.Word.{Word}

-- v is the result of a move of a to the left, and to the right
abbrev pub moved_left : ℕ → ℕ → ℕ → Word
moved_left w a v = record { value = v; z = one (not (top w a)); n = one (top w v) }

abbrev pub moved_right : ℕ → ℕ → ℕ → Word
moved_right w a v = record { value = v; z = one (a % 2 == 0); n = one (top w v) }

unfoldable pub shl_of : ℕ → ℕ → ℕ → Word
shl_of w a k = moved_left w a (a * 2 ^ k % 2 ^ w)

unfoldable pub shr_of : ℕ → ℕ → ℕ → Word
shr_of w a k = moved_right w a (a / 2 ^ k)

-- the sign bit goes into the k top bits
unfoldable pub shra_of : ℕ → ℕ → ℕ → Word
shra_of w a k = moved_right w a (pick (top w a) (2 ^ w - 2 ^ (w - k)) 0 + a / 2 ^ k)

unfoldable pub rotl_of : ℕ → ℕ → Word
rotl_of w a = moved_left w a (a % half w * 2 + a / half w)

unfoldable pub rotr_of : ℕ → ℕ → Word
rotr_of w a = moved_right w a (a % 2 * half w + a / 2)
