-- Numbers in decimal, "no sign and no leading zero" (docs/commands.md). Hex digits are syntax's `hex`.
use Rattle.std.specs.Prelude.{ℕ, zero, suc, ◌/◌, List, ◌++◌, ltb}
use Rattle.laws.specs.Choice.{pick}
use Rattle.syntax.specs.Quoted.{quoted}
use Rattle.printing.specs.Digits.{last_digits}

-- how many digits n has, k and one more at most
unfoldable pub places_from : ℕ → ℕ → ℕ
places_from zero n = 1
places_from (suc k) n = pick (ltb n 10) 1 (suc (places_from k (n / 10)))

-- a number of 64 bits has 20 digits at most
unfoldable pub decimal : ℕ → List ℕ
decimal n = last_digits 10 (places_from 19 n) n

-- "A refusal prints the line `refused N`": document 01's "refused", a space and its number
unfoldable pub refusal_line : ℕ → List ℕ
refusal_line n = quoted "refused " ++ (decimal n ++ quoted "\n")
