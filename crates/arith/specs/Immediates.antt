-- What a 16-bit immediate v stands for (4.4.2, 5.1.4). "W = 32: sign extended, zero extended, or times 65,536. W = 16 and 8: low
-- W bits, all three alike."
use Rattle.std.specs.Prelude.{ℕ, ◌+◌, ◌*◌, ◌%◌, ◌^◌, ◌==◌, nat_le}
use Rattle.laws.specs.Choice.{pick}
use Rattle.words.specs.declared.Form.{Form}
use Rattle.words.specs.declared.Form.TheVariants.{Signed, Unsigned, Shifted}

-- at 32 bits
unfoldable pub extend_of : Form → ℕ → ℕ
extend_of Signed v = pick (nat_le 32768 v) (v + 0xffff0000) v
extend_of Unsigned v = v
extend_of Shifted v = v * 65536

unfoldable pub immediate_of : ℕ → Form → ℕ → ℕ
immediate_of w f v = pick (w == 32) (extend_of f v) (v % 2 ^ w)
