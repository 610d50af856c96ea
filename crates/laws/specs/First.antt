-- The first that fails of a list of (number, test): a refusal's number, in the order of the list. 0 where none fails.
-- Assumes nothing.
use Rattle.std.specs.Prelude.{◌≡◌, refl, ◌⊎◌, Bool, true, false, ◌&&◌, List, [], ◌∷◌, ◌++◌, ℕ, ◌<◌, eqb, T, ltb}
use Rattle.std.proofs.Common.{◌∙◌, inl, inr, arith, ne_eqb, ltb→lt}
use Rattle.laws.specs.Choice.{pick, pick_yes}
use Rattle.laws.specs.Test.{Test, test, Holds, holds, tests, and_left, and_right}

abbrev pub first_failing : List (ℕ × Test) → ℕ
first_failing [] = 0
first_failing (r ∷ rs) = pick (test r.1) (first_failing rs) r.0

abbrev pub Every {ℓ} : {A : Type ℓ} → (A → Type 0) → List A → Type 0
Every P [] = Unit {0}
Every P (x ∷ xs) = P x × Every P xs

-- every test of the list holds
abbrev pub Obeyed : List (ℕ × Test) → Type 0
Obeyed = Every (λ r. Holds r.1)

-- no number of the list is 0, but where its test holds
abbrev pub Numbered : List (ℕ × Test) → Type 0
Numbered = Every (λ r. Holds r.1 ⊎ (0 < r.0))

-- so it is where no number is 0, which is computed
abbrev pub positive : List (ℕ × Test) → Bool
positive [] = true
positive (x ∷ xs) = ltb 0 x.0 && positive xs

pub numbered : (xs : List (ℕ × Test)) → T (positive xs) → Numbered xs
numbered [] t = tt
numbered (x ∷ xs) t =
    let b = ltb 0 x.0 in
    (inr (ltb→lt 0 x.0 (and_left b (positive xs) t)), numbered xs (and_right b (positive xs) t))

-- tests that hold are passed over
pub skip : (xs ys : List (ℕ × Test)) → Obeyed xs → first_failing (xs ++ ys) ≡ first_failing ys
skip [] ys h = refl
skip (x ∷ xs) ys h =
    pick_yes (test x.1) (first_failing (xs ++ ys)) x.0 (tests x.1 h.0) ∙ skip xs ys h.1

pub none_fails : (xs : List (ℕ × Test)) → Obeyed xs → first_failing xs ≡ 0
none_fails [] h = refl
none_fails (x ∷ xs) h =
    pick_yes (test x.1) (first_failing xs) x.0 (tests x.1 h.0) ∙ none_fails xs h.1

-- the converse, by cases on what the first test came to
passed_one : (p : Test) (b : Bool) (k n : ℕ) → (T b → Holds p) → Holds p ⊎ (0 < n) → pick b k n ≡ 0 → Holds p
unfolding pick
passed_one p true k n f h e = f tt
passed_one p false k n f (inl h) e = h
passed_one p false k n f (inr h) e = let z : ⊥ = omega arith in absurd z

passed_rest : (b : Bool) (k n : ℕ) → T b → pick b k n ≡ 0 → k ≡ 0
unfolding pick
passed_rest true k n h e = e
passed_rest false k n h e = absurd h

pub obeyed : (xs : List (ℕ × Test)) → Numbered xs → first_failing xs ≡ 0 → Obeyed xs
obeyed [] n e = tt
obeyed (x ∷ xs) n e =
    let h = passed_one x.1 (test x.1) (first_failing xs) x.0 (holds x.1) n.0 e in
    (h, obeyed xs n.1 (passed_rest (test x.1) (first_failing xs) x.0 (tests x.1 h) e))

-- where each test holds or its number is allowed, and so is 0, the answer is allowed

chosen : (P : ℕ → Type 0) (b : Bool) (k n : ℕ) → T b ⊎ P n → P k → P (pick b k n)
unfolding pick
chosen P true k n h x = x
chosen P false k n (inl t) x = absurd t
chosen P false k n (inr y) x = y

holds_or : (P : ℕ → Type 0) (p : Test) (n : ℕ) → Holds p ⊎ P n → T (test p) ⊎ P n
holds_or P p n (inl h) = inl (tests p h)
holds_or P p n (inr y) = inr y

pub allowed : (P : ℕ → Type 0) (xs : List (ℕ × Test)) → P 0 → Every (λ r. Holds r.1 ⊎ P r.0) xs → P (first_failing xs)
allowed P [] z h = z
allowed P (x ∷ xs) z h =
    chosen P (test x.1) (first_failing xs) x.0 (holds_or P x.1 x.0 h.0) (allowed P xs z h.1)

-- one list after another: the second counts where the first has no failing test
pub first_append : (xs ys : List (ℕ × Test)) → T (positive xs) →
    first_failing (xs ++ ys) ≡ pick (eqb (first_failing xs) 0) (first_failing ys) (first_failing xs)
unfolding pick
first_append [] ys t = refl
first_append (r ∷ rs) ys t =
    go (test r.1) (first_append rs ys (and_right (ltb 0 r.0) (positive rs) t))
    (ltb→lt 0 r.0 (and_left (ltb 0 r.0) (positive rs) t))
  where
    go : (b : Bool) → first_failing (rs ++ ys) ≡ pick (eqb (first_failing rs) 0) (first_failing ys) (first_failing rs) → 0 < r.0 →
        pick b (first_failing (rs ++ ys)) r.0 ≡
        pick (eqb (pick b (first_failing rs) r.0) 0) (first_failing ys) (pick b (first_failing rs) r.0)
    go true ih h = ih
    go false ih h = simp (ne_eqb r.0 0 (λ e. omega arith))
