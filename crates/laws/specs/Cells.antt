-- Cells below a bound: what is read there, and what stays so when a cell is set.
-- Assumes nothing.
use Rattle.std.specs.Prelude.{◌≡◌, true, false, List, [], ◌∷◌, ℕ, zero, suc, ◌+◌, ◌≤◌, ◌<◌, length, get_or, set, drop}
use Rattle.std.proofs.Common.{add-one, lt-ltb, le-ltb, drop_of_length-le, drop-cons}
use Rattle.laws.specs.Test.{Below, below}

pub below_at : (b : ℕ) (l : List ℕ) (n : ℕ) → 0 < b → Below b l → get_or l n 0 < b
below_at b [] n z h = z
below_at b (x ∷ l) zero z h = h.0
below_at b (x ∷ l) (suc n) z h = below_at b l n z h.1

pub below_set : (b : ℕ) (l : List ℕ) (n v : ℕ) → v < b → Below b l → Below b (set l n v)
below_set b [] n v q h = h
below_set b (x ∷ l) zero v q h = (q, h.1)
below_set b (x ∷ l) (suc n) v q h = (h.0, below_set b l n v q h.1)

-- from the cell above n on, whatever is set at n
pub below_above : (b : ℕ) (l : List ℕ) (n v : ℕ) → Below b (drop n l) → Below b (drop (suc n) (set l n v))
below_above b [] n v h = tt
below_above b (x ∷ l) zero v h = h.1
below_above b (x ∷ l) (suc n) v h = below_above b l n v h

-- from the cell n on, where a value below the bound is set there
pub below_from : (b : ℕ) (l : List ℕ) (n v : ℕ) → v < b → Below b (drop (suc n) l) → Below b (drop n (set l n v))
below_from b [] zero v q h = tt
below_from b [] (suc n) v q h = tt
below_from b (x ∷ l) zero v q h = (q, h)
below_from b (x ∷ l) (suc n) v q h = below_from b l n v q h

-- whether all cells from i on are below the bound, as a loop asks it
module _ (b : ℕ) (xs : List ℕ) (i : ℕ) where
  pub below_further : i < length xs → get_or xs i 0 < b → below b (drop i xs) ≡ below b (drop (i + 1) xs)
  below_further h q = rw (add-one, drop-cons xs i 0 h, lt-ltb _ _ q)

  pub below_ends : i < length xs → b ≤ get_or xs i 0 → false ≡ below b (drop i xs)
  below_ends h q = rw (drop-cons xs i 0 h, le-ltb _ _ q)

  pub below_done : length xs ≤ i → true ≡ below b (drop i xs)
  below_done h = rw (drop_of_length-le xs h)
