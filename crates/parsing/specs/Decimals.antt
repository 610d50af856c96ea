-- Decimal numbers as text: docs/commands.md, STEPS of 'yam run' and VALUE of 'yam pack'.
use Rattle.std.specs.Prelude.{ℕ, ◌+◌, ◌-◌, ◌*◌, Bool, ◌&&◌, List, [], ◌∷◌, Option, Some, None, eqb, leb, ltb, length}
use Rattle.laws.specs.Choice.{pick}

abbrev pub is_digit : ℕ → Bool
is_digit b = leb 48 b && leb b 57

-- The number that a text says; none where it is in another form

-- what digits say, after digits that say v
unfoldable pub decimal_from : ℕ → List ℕ → Option ℕ
decimal_from v [] = Some v
decimal_from v (b ∷ t) = pick (is_digit b) (decimal_from (10 * v + (b - 48)) t) None

-- "decimal": one digit or more, and nothing else
unfoldable pub decimal_of : List ℕ → Option ℕ
decimal_of t = pick (eqb (length t) 0) None (decimal_from 0 t)

-- "VALUE is 1 to 10 decimal digits, at most 4,294,967,295"

abbrev pub most_digits : ℕ
most_digits = 10

abbrev pub most_value : ℕ
most_value = 4294967295

unfoldable pub at_most : ℕ → Option ℕ → Option ℕ
at_most m (Some n) = pick (leb n m) (Some n) None
at_most m None = None

unfoldable pub value_of : List ℕ → Option ℕ
value_of t = pick (leb (length t) most_digits) (at_most most_value (decimal_of t)) None

-- as a call answers it: a number above 2^32 is answered as 2^32

abbrev pub limit : ℕ
limit = 4294967296

unfoldable pub capped : ℕ → ℕ
capped n = pick (ltb n limit) n limit

abbrev pub answered : Option ℕ → Option ℕ
answered (Some n) = Some (capped n)
answered None = None
