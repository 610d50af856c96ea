-- Laws of words, checksums and padding, in the shape that the loops leave. Assumes nothing.
use Rattle.std.proofs.Common.{◌≡◌, ℕ, zero, suc, ◌+◌, ◌-◌, ◌*◌, ◌%◌, ◌^◌, ◌<◌, ◌≤◌, true, false, T, List, sym, ap, ◌∙◌, add-zero, add-one, arith, le-ltb, lt-ltb, eq-eqb, ne_eqb}
use native.Mathlib.Nat.{mod-add-mod}
use Rattle.laws.specs.Choice.{pick}
use Rattle.laws.specs.Test.{test}
use Rattle.laws.specs.First.{first_failing, positive}
use Rattle.image.specs.File.{word_at, words_of, words_at, total, checksum}
use Rattle.image.specs.Loading.{zeros, block_tests, blocks_tests}
use Rattle.image.proofs.Lists.{words_at_lem}
use Rattle.image.proofs.Refusals.{part_fails, part_passes}

-- the sum s so far and what is left give the whole: before the first word, after one more, and after the last
pub sum_from : (g : ℕ → ℕ) (i n s : ℕ) → (s + total (words_of g (i + 0) (n - 0))) % 2 ^ 32 ≡ (s + total (words_of g i n)) % 2 ^ 32
sum_from g i n s = let e : n - 0 ≡ n = omega arith in rw (add-zero, e)

pub sum_start : (g : ℕ → ℕ) (i n : ℕ) → (512 + total (words_of g (i + 0) (n - 0))) % 2 ^ 32 ≡ checksum (words_of g i n)
unfolding checksum
sum_start g i n = sum_from g i n 512 ∙ ap (λ (k : ℕ). k % 2 ^ 32) (omega arith)

pub sum_next : (g : ℕ → ℕ) (i k n s : ℕ) → k < n →
    ((s + g (i + k)) % 2 ^ 32 + total (words_of g (i + (k + 1)) (n - (k + 1)))) % 2 ^ 32 ≡ (s + total (words_of g (i + k) (n - k))) % 2 ^ 32
unfolding total
sum_next g i k n s h =
    let t = total (words_of g (i + (k + 1)) (n - (k + 1))) in
    rw (words_at_lem g i k n h) (mod-add-mod (s + g (i + k)) (2 ^ 32) t ∙ ap (λ (x : ℕ). x % 2 ^ 32) (omega arith))

pub sum_end : (g : ℕ → ℕ) (i n s : ℕ) → s < 2 ^ 32 → (s + total (words_of g (i + n) (n - n))) % 2 ^ 32 ≡ s
unfolding total words_of
sum_end g i n s h = let e : n - n ≡ 0 = omega arith in rw e (omega arith)

-- words that are zero: one that is not decides, one that is leaves the rest
module _ (f : List ℕ) (i n : ℕ) where
  pub zero_start : test (zeros (words_at f (i + 0) (n - 0))) ≡ test (zeros (words_at f i n))
  zero_start = let e : n - 0 ≡ n = omega arith in rw (add-zero, e)

  pub not_zero : (k : ℕ) → k < n → (word_at f (i + k) ≡ 0 → ⊥) → false ≡ test (zeros (words_at f (i + k) (n - k)))
  not_zero k h e = rw (words_at_lem (word_at f) i k n h, le-ltb (word_at f (i + k)) 1 (omega arith))

  pub zero_next : (k : ℕ) → k < n → word_at f (i + k) ≡ 0 →
      test (zeros (words_at f (i + (k + 1)) (n - (k + 1)))) ≡ test (zeros (words_at f (i + k) (n - k)))
  zero_next k h e = rw (words_at_lem (word_at f) i k n h, lt-ltb (word_at f (i + k)) 1 (omega arith))

  pub zero_none : (k : ℕ) → n ≤ k → true ≡ test (zeros (words_at f (i + k) (n - k)))
  unfolding words_of
  zero_none k h = let e : n - k ≡ 0 = omega arith in rw e

-- 20 and 21 of a block
pub block_number : (f : List ℕ) (b : ℕ) → (word_at f (b * 128) ≡ b → ⊥) → 20 ≡ first_failing (block_tests f b)
unfolding block_tests pick
block_number f b h = rw (ne_eqb _ _ h)

pub block_sum : (f : List ℕ) (b : ℕ) → word_at f (b * 128) ≡ b → (word_at f (b * 128 + 127) ≡ checksum (words_at f (b * 128) 127) → ⊥) →
    21 ≡ first_failing (block_tests f b)
unfolding block_tests pick
block_sum f b e h = rw (eq-eqb _ _ e, ne_eqb _ _ h)

pub block_right : (f : List ℕ) (b : ℕ) → word_at f (b * 128) ≡ b → word_at f (b * 128 + 127) ≡ checksum (words_at f (b * 128) 127) →
    0 ≡ first_failing (block_tests f b)
unfolding block_tests pick
block_right f b e h = rw (eq-eqb _ _ e, eq-eqb _ _ h)

pub block_positive : (f : List ℕ) (b : ℕ) → T (positive (block_tests f b))
unfolding block_tests
block_positive f b = tt

pub blocks_positive : (f : List ℕ) (b n : ℕ) → T (positive (blocks_tests f b n))
unfolding blocks_tests block_tests
blocks_positive f b zero = tt
blocks_positive f b (suc n) = blocks_positive f (suc b) n

-- of several blocks, the first and the rest
pub blocks_first : (f : List ℕ) (b n : ℕ) → 0 < n → (first_failing (block_tests f b) ≡ 0 → ⊥) →
    first_failing (block_tests f b) ≡ first_failing (blocks_tests f b n)
unfolding blocks_tests
blocks_first f b zero h e = absurd (omega arith)
blocks_first f b (suc n) h e = part_fails (block_tests f b) (blocks_tests f (suc b) n) (block_positive f b) e

pub blocks_next : (f : List ℕ) (b n m : ℕ) → 0 < n → m ≡ n - 1 → first_failing (block_tests f b) ≡ 0 →
    first_failing (blocks_tests f (b + 1) m) ≡ first_failing (blocks_tests f b n)
unfolding blocks_tests
blocks_next f b zero m h d e = absurd (omega arith)
blocks_next f b (suc n) m h d e =
    let l : m ≡ n = omega arith in
    rw (add-one, l)
    (sym (part_passes (block_tests f b) (blocks_tests f (suc b) n) (block_positive f b) e))

pub blocks_none : (f : List ℕ) (b n : ℕ) → n ≡ 0 → 0 ≡ first_failing (blocks_tests f b n)
unfolding blocks_tests
blocks_none f b n e = rw e

pub blocks_start : (f : List ℕ) (b n : ℕ) → first_failing (blocks_tests f b (b + n - b)) ≡ first_failing (blocks_tests f b n)
blocks_start f b n = let e : b + n - b ≡ n = omega arith in rw e
