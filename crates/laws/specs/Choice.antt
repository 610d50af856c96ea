-- A choice by a test, and what holds of it. `pick` is shut, so that a goal keeps its two branches in sight.
-- Assumes nothing.
use Rattle.std.specs.Prelude.{◌≡◌, Bool, T}
use Rattle.std.proofs.Math.Path.{refl}
use Rattle.std.proofs.Math.Bool.{true, false}

module _ {A : Type 0} where
  unfoldable pub pick : Bool → A → A → A
  pick true x y = x
  pick false x y = y

  pub pick_yes : (b : Bool) (x y : A) → T b → pick b x y ≡ x
  unfolding pick
  pick_yes true x y h = refl
  pick_yes false x y h = absurd h

  pub pick_no : (b : Bool) (x y : A) → (T b → ⊥) → pick b x y ≡ y
  unfolding pick
  pick_no true x y h = absurd (h tt)
  pick_no false x y h = refl

  -- what holds of both branches, each under its answer, holds of the choice
  pub either : (P : A → Type 0) (b : Bool) (x y : A) → (T b → P x) → ((T b → ⊥) → P y) → P (pick b x y)
  unfolding pick
  either P true x y p q = p tt
  either P false x y p q = q λ t. t

-- a decision, as a test
abbrev pub decided : {P : Type 0} → Dec P → Bool
decided (yes p) = true
decided (no p) = false

pub decided_yes : {P : Type 0} (d : Dec P) → T (decided d) → P
decided_yes (yes p) t = p
decided_yes (no p) t = absurd t

-- a test that holds is true, and the other way round
pub is_true : (b : Bool) → T b → b ≡ true
is_true true h = refl
is_true false h = absurd h

pub is_false : (b : Bool) → (T b → ⊥) → b ≡ false
is_false true h = absurd (h tt)
is_false false h = refl

pub true_is : (b : Bool) → b ≡ true → T b
true_is b e = rw e tt

-- x where b holds, else y, and always computed: for a record that is changed at one named place
abbrev pub swapped : {A : Type 0} → Bool → A → A → A
swapped true x y = x
swapped false x y = y
