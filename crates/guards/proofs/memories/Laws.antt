-- Every cell at most a bound, as the code asks it. Assumes nothing.
use Prim.Native.Nat.{ℕ, ◌+◌}
use mathlib.Core.Path.{◌≡◌, refl, sym}
use mathlib.Core.Bool.{Bool, true, false}
use mathlib.Core.List.{List, [], ◌∷◌}
use native.Mathlib.Omega.{arith}
use borrow.Author.Tests.{lt-ltb, le-ltb, leb-true, leb-false}
use lib.Dec.{ltb, leb}
use Rattle.std.specs.List.{list_all}
use Rattle.laws.specs.Test.{below}

leb_ltb : (x b : ℕ) → leb x b ≡ ltb x (b + 1)
leb_ltb x b = go (leb x b) refl
  where
    go : (p : Bool) → leb x b ≡ p → p ≡ ltb x (b + 1)
    go true h = sym (lt-ltb x (b + 1) (omega (arith, leb-true x b h)))
    go false h = sym (le-ltb x (b + 1) (omega (arith, leb-false x b h)))

pub all_most : (b : ℕ) (xs : List ℕ) → list_all (λ x. leb x b) xs ≡ below (b + 1) xs
all_most b [] = refl
all_most b (x ∷ xs) = rw (leb_ltb x b, all_most b xs)
