-- A rule, range or refusal is written once, as a Test, and read in two ways: `test` computes it, for answers and for code, and
-- `Holds` says it, for theorems. The two readings agree (`holds`, `tests`).
-- Assumes nothing.
use Rattle.std.specs.Prelude.{◌≡◌, ◌⊎◌, Bool, true, false, not, ◌&&◌, ◌||◌, List, [], ◌∷◌, ℕ, ◌<◌, ◌≤◌, T, ltb, leb, eqb}
use Rattle.std.proofs.Common.{inl, inr, ltb→lt, lt→ltb, leb→le, le→leb, eqb→eq, T_not}
use Rattle.std.proofs.Math.Dec.{eqb_refl, not_T}

infixr 35 ◌and◌
infixr 30 ◌or◌
pub data Test : Type 0 where
  less : ℕ → ℕ → Test
  most : ℕ → ℕ → Test
  same : ℕ → ℕ → Test
  isnt : ℕ → ℕ → Test
  among : ℕ → List ℕ → Test
  each : ℕ → List ℕ → Test
  yes? : Bool → Test
  no? : Bool → Test
  if? : Bool → Test → Test
  ◌and◌ : Test → Test → Test
  ◌or◌ : Test → Test → Test

-- a implies b, as code has it: !a | b
abbrev pub imp : Bool → Bool → Bool
imp a b = not a || b

-- n is one of the list
abbrev pub member : ℕ → List ℕ → Bool
member n [] = false
member n (x ∷ []) = eqb n x
member n (x ∷ (y ∷ ys)) = eqb n x || member n (y ∷ ys)

abbrev pub Member : ℕ → List ℕ → Type 0
Member n [] = ⊥
Member n (x ∷ []) = n ≡ x
Member n (x ∷ (y ∷ ys)) = (n ≡ x) ⊎ Member n (y ∷ ys)

-- each number of the list is below b
abbrev pub below : ℕ → List ℕ → Bool
below b [] = true
below b (x ∷ xs) = ltb x b && below b xs

abbrev pub Below : ℕ → List ℕ → Type 0
Below b [] = Unit {0}
Below b (x ∷ xs) = (x < b) × Below b xs

abbrev pub test : Test → Bool
test (less a b) = ltb a b
test (most a b) = leb a b
test (same a b) = eqb a b
test (isnt a b) = not (eqb a b)
test (among n xs) = member n xs
test (each b xs) = below b xs
test (yes? b) = b
test (no? b) = not b
test (if? b p) = imp b (test p)
test (p and q) = test p && test q
test (p or q) = test p || test q

abbrev pub Holds : Test → Type 0
Holds (less a b) = a < b
Holds (most a b) = a ≤ b
Holds (same a b) = a ≡ b
Holds (isnt a b) = a ≡ b → ⊥
Holds (among n xs) = Member n xs
Holds (each b xs) = Below b xs
Holds (yes? b) = T b
Holds (no? b) = T b → ⊥
Holds (if? b p) = T b → Holds p
Holds (p and q) = Holds p × Holds q
Holds (p or q) = Holds p ⊎ Holds q

-- the operators of the two readings

pub and_left : (a b : Bool) → T (a && b) → T a
and_left true b h = tt
and_left false b h = h

pub and_right : (a b : Bool) → T (a && b) → T b
and_right true b h = h
and_right false b h = absurd h

pub and_both : (a b : Bool) → T a → T b → T (a && b)
and_both true b h k = k
and_both false b h k = h

pub or_cases : (a b : Bool) → T (a || b) → T a ⊎ T b
or_cases true b h = inl tt
or_cases false b h = inr h

pub or_left : (a b : Bool) → T a → T (a || b)
or_left true b h = tt
or_left false b h = absurd h

pub or_right : (a b : Bool) → T b → T (a || b)
or_right true b h = tt
or_right false b h = h

pub imp_use : (a b : Bool) → T (imp a b) → T a → T b
imp_use true b h k = h
imp_use false b h k = absurd k

pub imp_make : (a b : Bool) → (T a → T b) → T (imp a b)
imp_make true b h = h tt
imp_make false b h = tt

pub eq→eqb : (m n : ℕ) → m ≡ n → T (eqb m n)
eq→eqb m n e = rw e (eqb_refl n)

-- the two readings of the lists

below_holds : (b : ℕ) (xs : List ℕ) → T (below b xs) → Below b xs
below_holds b [] h = tt
below_holds b (x ∷ xs) h =
    (ltb→lt x b (and_left (ltb x b) (below b xs) h), below_holds b xs (and_right (ltb x b) (below b xs) h))

below_tests : (b : ℕ) (xs : List ℕ) → Below b xs → T (below b xs)
below_tests b [] h = tt
below_tests b (x ∷ xs) h = and_both (ltb x b) (below b xs) (lt→ltb x b h.0) (below_tests b xs h.1)

pub member_holds : (n : ℕ) (xs : List ℕ) → T (member n xs) → Member n xs
member_holds n [] h = h
member_holds n (x ∷ []) h = eqb→eq n x h
member_holds n (x ∷ (y ∷ ys)) h = go (or_cases (eqb n x) (member n (y ∷ ys)) h) (λ t. member_holds n (y ∷ ys) t)
  where
    go : T (eqb n x) ⊎ T (member n (y ∷ ys)) → (T (member n (y ∷ ys)) → Member n (y ∷ ys)) → (n ≡ x) ⊎ Member n (y ∷ ys)
    go (inl t) f = inl (eqb→eq n x t)
    go (inr t) f = inr (f t)

pub member_tests : (n : ℕ) (xs : List ℕ) → Member n xs → T (member n xs)
member_tests n [] h = h
member_tests n (x ∷ []) h = eq→eqb n x h
member_tests n (x ∷ (y ∷ ys)) (inl e) = or_left (eqb n x) (member n (y ∷ ys)) (eq→eqb n x e)
member_tests n (x ∷ (y ∷ ys)) (inr m) = or_right (eqb n x) (member n (y ∷ ys)) (member_tests n (y ∷ ys) m)

-- the two readings agree

pub holds : (p : Test) → T (test p) → Holds p
holds (less a b) h = ltb→lt a b h
holds (most a b) h = leb→le a b h
holds (same a b) h = eqb→eq a b h
holds (isnt a b) h = λ e. T_not (eqb a b) h (eq→eqb a b e)
holds (among n xs) h = member_holds n xs h
holds (each b xs) h = below_holds b xs h
holds (yes? b) h = h
holds (no? b) h = T_not b h
holds (if? b p) h = λ t. holds p (imp_use b (test p) h t)
holds (p and q) h = (holds p (and_left (test p) (test q) h), holds q (and_right (test p) (test q) h))
holds (p or q) h = go (or_cases (test p) (test q) h) (λ t. holds p t) (λ t. holds q t)
  where
    go : T (test p) ⊎ T (test q) → (T (test p) → Holds p) → (T (test q) → Holds q) → Holds p ⊎ Holds q
    go (inl t) f g = inl (f t)
    go (inr t) f g = inr (g t)

pub tests : (p : Test) → Holds p → T (test p)
tests (less a b) h = lt→ltb a b h
tests (most a b) h = le→leb a b h
tests (same a b) h = eq→eqb a b h
tests (isnt a b) h = not_T (eqb a b) λ t. h (eqb→eq a b t)
tests (among n xs) h = member_tests n xs h
tests (each b xs) h = below_tests b xs h
tests (yes? b) h = h
tests (no? b) h = not_T b h
tests (if? b p) h = imp_make b (test p) λ t. tests p (h t)
tests (p and q) h = and_both (test p) (test q) (tests p h.0) (tests q h.1)
tests (p or q) (inl h) = or_left (test p) (test q) (tests p h)
tests (p or q) (inr h) = or_right (test p) (test q) (tests q h)
