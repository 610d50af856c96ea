-- Numbers as digits to a base of at most 16: of decimal numbers and hex words in one form, for the code that reads both.
use Rattle.std.specs.Prelude.{ℕ, ◌+◌, ◌*◌, ◌||◌, List, [], ◌∷◌, Option, Some, None, eqb, ltb, length}
use Rattle.laws.specs.Choice.{pick}
use Rattle.parsing.specs.Decimals.{most_value, at_most}
use Rattle.parsing.specs.Words.{hex_value}

-- what digits say, after digits that say v
unfoldable pub digits_from : ℕ → ℕ → List ℕ → Option ℕ
digits_from base v [] = Some v
digits_from base v (b ∷ t) = pick (ltb (hex_value b) base) (digits_from base (base * v + hex_value b) t) None

-- 1 to `most` digits of a number below 2^32
unfoldable pub number_in : ℕ → ℕ → List ℕ → Option ℕ
number_in base most t = pick (eqb (length t) 0 || ltb most (length t)) None (at_most most_value (digits_from base 0 t))
