-- What is asked of each successor holds of each, and how code asks it.
-- Assumes nothing.
use Prim.Native.Nat.{ℕ, ◌+◌}
use mathlib.Core.Path.{◌≡◌, refl, ap}
use mathlib.Core.Bool.{Bool, true, false, ◌&&◌, and-true}
use mathlib.Core.List.Memᴰ
use mathlib.Core.List.{List, [], ◌∷◌, ◌++◌, Memᴰ}
use lib.Dec.{T}
use Rattle.laws.specs.Choice.{pick, pick_yes}
use Rattle.laws.specs.Test.{Test, test, imp, Holds}
use Rattle.words.specs.declared.Facts.{Facts}
use Rattle.rules.specs.Successors.{Successor, successor, successors, for_each}

infixl 20 ◌∈◌
abbrev pub ◌∈◌ : Successor → List Successor → Type 0
s ∈ ss = Memᴰ s ss

pub first : {s : Successor} {ss : List Successor} → s ∈ (s ∷ ss)
first = Memᴰ.head refl

pub second : {r s : Successor} {ss : List Successor} → s ∈ (r ∷ (s ∷ ss))
second = Memᴰ.tail first

pub target_in : (f : Facts) (a t : ℕ) → T f.target → successor t f.calls ∈ successors f a t
unfolding successors
target_in f a t u =
    rw (pick_yes f.target (successor t f.calls ∷ []) [] u)
    (Memᴰ.append_right (pick f.next (successor (a + 1) false ∷ []) []) first)

module _ (mark : ℕ → ℕ) (p : Successor → ℕ → Test) where
  pub one_of : {s : Successor} {ss : List Successor} → Holds (for_each mark ss p) → s ∈ ss → Holds (p s (mark s.address))
  one_of h (Memᴰ.head e) = rw e h.0
  one_of h (Memᴰ.tail m) = one_of h.1 m

  abbrev pub P : Successor → Bool
  P s = test (p s (mark s.address))

  pub asked : (f : Facts) (a t : ℕ) →
      test (for_each mark (successors f a t) p) ≡
      (imp f.next (P (successor (a + 1) false)) && imp f.target (P (successor t f.calls)))
  unfolding successors pick
  asked f a t = go f.next f.target (successor (a + 1) false) (successor t f.calls)
    where
      go : (b d : Bool) (r s : Successor) →
          test (for_each mark (pick b (r ∷ []) [] ++ pick d (s ∷ []) []) p) ≡ (imp b (P r) && imp d (P s))
      go true true r s = ap (λ x. P r && x) (and-true (P s))
      go true false r s = refl
      go false true r s = and-true (P s)
      go false false r s = refl
