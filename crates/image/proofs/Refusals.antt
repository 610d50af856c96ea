-- The first that fails, as code with early returns finds it. Assumes nothing.
use Rattle.std.proofs.Common.{◌≡◌, ℕ, T, List, ◌++◌, ne_eqb}
use Rattle.laws.specs.Choice.{pick}
use Rattle.laws.specs.Test.{Test}
use Rattle.laws.specs.First.{first_failing, positive, first_append}

-- of one list after another
pub part_fails : (xs ys : List (ℕ × Test)) → T (positive xs) → (first_failing xs ≡ 0 → ⊥) → first_failing xs ≡ first_failing (xs ++ ys)
unfolding pick
part_fails xs ys p h = rw (first_append xs ys p, ne_eqb (first_failing xs) 0 h)

pub part_passes : (xs ys : List (ℕ × Test)) → T (positive xs) → first_failing xs ≡ 0 → first_failing (xs ++ ys) ≡ first_failing ys
unfolding pick
part_passes xs ys p e = rw (first_append xs ys p, e)
