-- The limits of one check, as src/limits.rt finds them.
-- Assumes nothing.
use Prim.Native.Nat.{ℕ, ◌≤◌}
use mathlib.Core.Path.{◌≡◌, refl}
use mathlib.Core.List.{List, ◌∷◌}
use lib.ListN.{get_or-eq_default}
use Rattle.laws.specs.Choice.{pick}
use Rattle.words.specs.declared.Config.{Config}
use Rattle.words.specs.Parts.{unused, in_range, never, available}
use Rattle.words.specs.Packed.{limit_of}
use Rattle.words.specs.Actions.{Check, check, checks}
use Rattle.words.specs.Lookup.{check_at, limit_in, upper_limit, lower_limit}

-- u and l are the limits of check k
abbrev pub LimitsOf : Config → Check → ℕ → ℕ → Type 0
LimitsOf c k u l = (u ≡ upper_limit c k) × (l ≡ lower_limit c k)

-- a table of limits, one after the other
infixr 5 ◌then◌
pub ◌then◌ : {x y : ℕ} {l m : List ℕ} → x ≡ y → l ≡ m → (x ∷ l) ≡ (y ∷ m)
e then f = rw (e, f)

-- in the arm of check i
pub at_check : (c : Config) (t i x y u l : ℕ) → t ≡ i → (u ≡ x) × (l ≡ y) → x ≡ upper_limit c (check_at i) → y ≡ lower_limit c (check_at i) →
    LimitsOf c (check_at t) u l
at_check c t i x y u l e m p q = rw (e, ← p, ← q) m

-- a number that is no check refuses everything

no_check : (t : ℕ) → 28 ≤ t → check_at t ≡ check 0 unused unused never 0
unfolding check_at checks
no_check t h = get_or-eq_default checks (check 0 unused unused never 0) h

none : (c : Config) (k : Check) → k ≡ check 0 unused unused never 0 → LimitsOf c k 0 1
unfolding upper_limit lower_limit limit_in limit_of in_range available pick
none c k e = rw e (refl, refl)

pub past : (c : Config) (t u l : ℕ) → 28 ≤ t → (u ≡ 0) × (l ≡ 1) → LimitsOf c (check_at t) u l
past c t u l h m = rw (m.0, m.1) (none c (check_at t) (no_check t h))
