-- Laws of runs of stores and of words from a place on. Assumes nothing.
use Rattle.std.proofs.Common.{◌≡◌, ℕ, zero, suc, ◌+◌, ◌-◌, ◌<◌, List, [], ◌∷◌, ◌++◌, length, get_or, set, refl, ap, ◌∙◌, add-zero, add-suc, suc-add, zero-add, add-one, arith}
use lib.Seq.{sets}
use Rattle.laws.specs.Table.{value_at}
use Rattle.laws.specs.Test.{Below}
use Rattle.image.specs.File.{words_of}

-- two runs of stores, one after the other, are one run
pub sets_append : (l : List ℕ) (i : ℕ) (vs ws : List ℕ) → sets l i (vs ++ ws) ≡ sets (sets l i vs) (i + length vs) ws
sets_append l i [] ws = rw add-zero
sets_append l i (v ∷ vs) ws = rw (add-suc, ← suc-add i (length vs)) (sets_append (set l i v) (suc i) vs ws)

pub length_words : (g : ℕ → ℕ) (i n : ℕ) → length (words_of g i n) ≡ n
unfolding words_of
length_words g i zero = refl
length_words g i (suc n) = ap suc (length_words g (suc i) n)

-- the first of the words, and the rest
pub words_first : (g : ℕ → ℕ) (i n : ℕ) → 0 < n → words_of g i n ≡ g i ∷ words_of g (i + 1) (n - 1)
unfolding words_of
words_first g i zero h = absurd (omega arith)
words_first g i (suc n) h = let e : suc n - 1 ≡ n = omega arith in rw (add-one, e)

-- one of them in their middle
pub words_at_lem : (g : ℕ → ℕ) (i k n : ℕ) → k < n → words_of g (i + k) (n - k) ≡ g (i + k) ∷ words_of g (i + (k + 1)) (n - (k + 1))
words_at_lem g i k n h =
    let e : n - k - 1 ≡ n - (k + 1) = omega arith in
    let a : i + k + 1 ≡ i + (k + 1) = omega arith in
    words_first g (i + k) (n - k) (omega arith) ∙ rw (e, a)

pub words_split : (g : ℕ → ℕ) (i m n : ℕ) → words_of g i (m + n) ≡ words_of g i m ++ words_of g (i + m) n
unfolding words_of
words_split g i zero n = rw (zero-add, add-zero)
words_split g i (suc m) n = rw (suc-add, add-suc, ← suc-add i m) (ap (λ l. g i ∷ l) (words_split g (suc i) m n))

-- functions with the same words_of have the same list of them
pub words_same : (g h : ℕ → ℕ) (i j n : ℕ) → ((k : ℕ) → k < n → g (i + k) ≡ h (j + k)) → words_of g i n ≡ words_of h j n
unfolding words_of
words_same g h i j zero e = refl
words_same g h i j (suc n) e =
    let a : g i ≡ h j = rw (add-zero, add-zero) at (e 0 (omega arith)) in
    rw (a, words_same g h (suc i) (suc j) n (next n e))
  where
    next : (n : ℕ) → ((k : ℕ) → k < suc n → g (i + k) ≡ h (j + k)) → (k : ℕ) → k < n → g (suc i + k) ≡ h (suc j + k)
    next n e k q = rw (suc-add, suc-add, ← add-suc, ← add-suc) (e (suc k) (omega arith))

pub words_get_d : (g : ℕ → ℕ) (i n k : ℕ) → k < n → get_or (words_of g i n) k 0 ≡ g (i + k)
unfolding words_of
words_get_d g i n k h =
    ap (λ l. get_or l k 0) (words_same g (λ j. g (i + j)) i 0 n (λ j q. rw zero-add)) ∙ value_at (λ j. g (i + j)) n k 0 h

-- a list is the words that it has
pub words_list : (g : ℕ → ℕ) (i : ℕ) (l : List ℕ) → ((k : ℕ) → k < length l → g (i + k) ≡ get_or l k 0) → words_of g i (length l) ≡ l
unfolding words_of
words_list g i [] e = refl
words_list g i (x ∷ l) e =
    let a : g i ≡ x = rw add-zero at (e 0 (omega arith)) in
    rw (a, words_list g (suc i) l (λ k q. rw (suc-add, ← add-suc) (e (suc k) (omega arith))))

pub below_words : (b : ℕ) (g : ℕ → ℕ) (i n : ℕ) → ((k : ℕ) → k < n → g (i + k) < b) → Below b (words_of g i n)
unfolding words_of
below_words b g i zero h = tt
below_words b g i (suc n) h =
    (rw add-zero at (h 0 (omega arith)), below_words b g (suc i) n (λ k q. rw (suc-add, ← add-suc) (h (suc k) (omega arith))))

pub below_append : (b : ℕ) (xs ys : List ℕ) → Below b xs → Below b ys → Below b (xs ++ ys)
below_append b [] ys h k = k
below_append b (x ∷ xs) ys h k = (h.0, below_append b xs ys h.1 k)
