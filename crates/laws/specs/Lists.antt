-- Laws of lists that the library lacks.
-- Assumes nothing.
use Rattle.std.specs.Prelude.{◌≡◌, refl, Bool, true, ◌&&◌, List, [], ◌∷◌, ℕ, zero, suc, ◌<◌, T, length, get_or}
use Rattle.std.proofs.Common.{inl, inr, le_of_suc-le-suc, not-suc-le-zero}
use Rattle.laws.specs.Test.{Member, and_left, and_right}

-- inside the list, the default does not matter
pub get_d_inside : {A : Type 0} (l : List A) (n : ℕ) (d e : A) → n < length l → get_or l n d ≡ get_or l n e
get_d_inside [] n d e h = absurd (not-suc-le-zero h)
get_d_inside (x ∷ xs) zero d e h = refl
get_d_inside (x ∷ xs) (suc n) d e h = get_d_inside xs n d e (le_of_suc-le-suc h)

-- a column of a table: f of each entry
module _ {A B : Type 0} where
  abbrev pub column : (A → B) → List A → List B
  column f [] = []
  column f (x ∷ xs) = f x ∷ column f xs

  pub column_at : (f : A → B) (l : List A) (n : ℕ) (d : A) → get_or (column f l) n (f d) ≡ f (get_or l n d)
  column_at f [] n d = refl
  column_at f (x ∷ xs) zero d = refl
  column_at f (x ∷ xs) (suc n) d = column_at f xs n d

-- f holds of each number of the list
abbrev pub all : (ℕ → Bool) → List ℕ → Bool
all f [] = true
all f (x ∷ xs) = f x && all f xs

-- so it holds of one of them
pub all_at : (f : ℕ → Bool) (xs : List ℕ) (n : ℕ) → T (all f xs) → Member n xs → T (f n)
all_at f [] n t m = absurd m
all_at f (x ∷ []) n t m = rw m (and_left (f x) true t)
all_at f (x ∷ (y ∷ ys)) n t (inl e) = rw e (and_left (f x) (all f (y ∷ ys)) t)
all_at f (x ∷ (y ∷ ys)) n t (inr m) = all_at f (y ∷ ys) n (and_right (f x) (all f (y ∷ ys)) t) m

-- a pair, so that a long chain of facts stands without brackets
infixr 20 ◌also◌
pub ◌also◌ : {A B : Type 0} → A → B → A × B
x also y = (x, y)
