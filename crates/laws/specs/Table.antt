-- A table's rule, proved once: a test that antt computes at each number below a bound, and what it tells of one of them;
-- and the list of a function's values.
-- Assumes nothing.
use Rattle.std.specs.Prelude.{◌≡◌, Bool, true, ◌&&◌, List, [], ◌∷◌, ℕ, zero, suc, ◌+◌, ◌<◌, ◌≤◌, T, get_or}
use Rattle.std.proofs.Common.{ap, ◌∙◌, arith, add-zero, zero-add, add-suc, suc-add, le_of_suc-le-suc, not-suc-le-zero}
use Rattle.laws.specs.Test.{and_left, and_right}

-- f holds at i, i + 1, .., n numbers
abbrev pub from : (ℕ → Bool) → ℕ → ℕ → Bool
from f i zero = true
from f i (suc n) = f i && from f (suc i) n

at_from : (f : ℕ → Bool) (n i k : ℕ) → T (from f i n) → k < n → T (f (i + k))
at_from f zero i k t h = absurd (not-suc-le-zero h)
at_from f (suc n) i zero t h = rw add-zero (and_left (f i) (from f (suc i) n) t)
at_from f (suc n) i (suc k) t h =
    rw (add-suc, ← suc-add) (at_from f n (suc i) k (and_right (f i) (from f (suc i) n) t) (le_of_suc-le-suc h))

abbrev pub every : ℕ → (ℕ → Bool) → Bool
every n f = from f 0 n

pub at_every : (n : ℕ) (f : ℕ → Bool) (k : ℕ) → T (every n f) → k < n → T (f k)
at_every n f k t h = rw zero-add at (at_from f n 0 k t h)

-- f i, f (i + 1), .., n values
abbrev pub values : (ℕ → ℕ) → ℕ → ℕ → List ℕ
values f i zero = []
values f i (suc n) = f i ∷ values f (suc i) n

value_from : (f : ℕ → ℕ) (n i k d : ℕ) → k < n → get_or (values f i n) k d ≡ f (i + k)
value_from f zero i k d h = absurd (not-suc-le-zero h)
value_from f (suc n) i zero d h = rw add-zero
value_from f (suc n) i (suc k) d h = rw (add-suc, ← suc-add) (value_from f n (suc i) k d (le_of_suc-le-suc h))

pub value_at : (f : ℕ → ℕ) (n k d : ℕ) → k < n → get_or (values f 0 n) k d ≡ f k
value_at f n k d h = value_from f n 0 k d h ∙ ap f (zero-add k)

-- n is none of the numbers below k: what the last arm of a match on them knows
abbrev pub Excluded : ℕ → ℕ → Type 0
Excluded n zero = Unit {0}
Excluded n (suc k) = Excluded n k × (n ≡ k → ⊥)

pub excluded : (n k : ℕ) → Excluded n k → k ≤ n
excluded n zero t = omega arith
excluded n (suc k) t = let h = excluded n k t.0 in let e = t.1 in omega (arith, h, e)
