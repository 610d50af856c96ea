-- Laws of copying the image and of the answers' order. Assumes nothing.
use Rattle.std.proofs.Common.{◌≡◌, ℕ, zero, suc, ◌+◌, ◌-◌, ◌*◌, ◌%◌, ◌<◌, ◌≤◌, Bool, true, false, T, eqb, leb, List, ◌++◌, length, drop, set, sym, refl, ap, ◌∙◌, add-zero, zero-add, arith, eqb→eq, leb→le, ne_eqb, Ok, Err}
use lib.Seq.{sets, sets-eq}
use Rattle.laws.specs.Choice.{pick, true_is}
use Rattle.laws.specs.Test.{test, holds, less, same, ◌and◌}
use Rattle.laws.specs.First.{first_failing, first_append, positive, numbered, obeyed}
use Rattle.words.specs.declared.Config.{Config}
use Rattle.words.specs.Configs.{lawful}
use Rattle.image.specs.declared.Refusal.{Refusal}
use Rattle.image.specs.Answers.{refusal_number, load_answer}
use Rattle.image.specs.Claims.{Loads}
use Rattle.image.proofs.Answers.{numbered as numbered_one}
use Rattle.image.specs.File.{word_at, words_of, words_at, blocks_for, file_size, first_filling, config_of, image_word, image_words}
use Rattle.image.specs.Loading.{zeros, block_tests, blocks_tests, head_tests, rest_tests, load_number, load_of}
use Rattle.image.proofs.blocks.Laws.{block_positive, blocks_positive}
use Rattle.image.proofs.Lists.{sets_append, length_words, words_at_lem, words_split, words_same}

-- copying: what is left after what is done is the whole
pub copy_start : (f image : List ℕ) (place at n : ℕ) → sets image (at + 0) (words_at f (place + 0) (n - 0)) ≡ sets image at (words_at f place n)
copy_start f image place at n = let e : n - 0 ≡ n = omega arith in rw (add-zero, add-zero, e)

pub copy_next : (f image : List ℕ) (place at n k : ℕ) → k < n →
    sets (set image (at + k) (word_at f (place + k))) (at + (k + 1)) (words_at f (place + (k + 1)) (n - (k + 1))) ≡
    sets image (at + k) (words_at f (place + k) (n - k))
copy_next f image place at n k h =
    let e : at + (k + 1) ≡ suc (at + k) = omega arith in
    rw (words_at_lem (word_at f) place k n h, e)

pub copy_end : (f image : List ℕ) (place at n : ℕ) → sets image (at + n) (words_at f (place + n) (n - n)) ≡ image
unfolding words_of
copy_end f image place at n = let e : n - n ≡ 0 = omega arith in rw e

-- the words of the image in one block lie side by side
pub in_block : (f : List ℕ) (b i m : ℕ) → i + m ≤ 126 → image_words f (b * 126 + i) m ≡ words_at f (b * 128 + 129 + i) m
unfolding image_word
in_block f b i m h =
    words_same (image_word f) (word_at f) (b * 126 + i) (b * 128 + 129 + i) m
    (λ k q. ap (word_at f) (omega arith))

-- where the rest is empty, its place does not matter
rest_at : (f image : List ℕ) (i j r : ℕ) → (0 < r → i ≡ j) → sets image i (image_words f i r) ≡ sets image j (image_words f j r)
unfolding words_of
rest_at f image i j zero h = refl
rest_at f image i j (suc r) h = rw (h (omega arith))

-- one block copied: m words, all that are left or 126
pub block_next : (f image : List ℕ) (b n m : ℕ) → m ≤ n - b * 126 → m ≤ 126 → n - b * 126 - m ≡ n - b * 126 - 126 →
    sets (sets image (b * 126) (words_at f (b * 128 + 129) m)) ((b + 1) * 126) (image_words f ((b + 1) * 126) (n - (b + 1) * 126)) ≡
    sets image (b * 126) (image_words f (b * 126) (n - b * 126))
block_next f image b n m p q e = sym (split ∙ rest)
  where
    r : ℕ
    r = n - (b + 1) * 126

    split : sets image (b * 126) (image_words f (b * 126) (n - b * 126)) ≡
        sets (sets image (b * 126) (words_at f (b * 128 + 129) m)) (b * 126 + m) (image_words f (b * 126 + m) r)
    split =
        let e : n - b * 126 ≡ m + r = omega arith in
        let z : b * 126 + 0 ≡ b * 126 = omega arith in
        let y : b * 128 + 129 + 0 ≡ b * 128 + 129 = omega arith in
        let w : image_words f (b * 126) m ≡ words_at f (b * 128 + 129) m = rw (z, y) at (in_block f b 0 m (omega arith)) in
        rw (e, words_split (image_word f) (b * 126) m r, sets_append, w, length_words)

    rest : sets (sets image (b * 126) (words_at f (b * 128 + 129) m)) (b * 126 + m) (image_words f (b * 126 + m) r) ≡
        sets (sets image (b * 126) (words_at f (b * 128 + 129) m)) ((b + 1) * 126) (image_words f ((b + 1) * 126) r)
    rest = rest_at f _ (b * 126 + m) ((b + 1) * 126) r (λ h. omega arith)

pub blocks_start : (f image : List ℕ) (n : ℕ) → sets image (0 * 126) (image_words f (0 * 126) (n - 0 * 126)) ≡ sets image 0 (image_words f 0 n)
blocks_start f image n = let e : n - 0 * 126 ≡ n = omega arith in rw e

pub blocks_end : (f image : List ℕ) (i n : ℕ) → n ≤ i → sets image i (image_words f i (n - i)) ≡ image
unfolding words_of
blocks_end f image i n h = let e : n - i ≡ 0 = omega arith in rw e

-- the questions in document 01's order, as the code asks them

pub head_is : (f : List ℕ) →
    first_failing (head_tests f) ≡
    pick (test (less 0 (length f) and same (length f % 512) 0))
    (pick (eqb (first_failing (block_tests f 0)) 0)
    (pick (test (zeros (words_at f first_filling (127 - first_filling)))) (pick (test (lawful (config_of f))) 0 1) 22)
    (first_failing (block_tests f 0)))
    19
unfolding head_tests
head_is f = rw (first_append (block_tests f 0) _ (block_positive f 0))

pub head_length : (f : List ℕ) → test (less 0 (length f) and same (length f % 512) 0) ≡ true → 512 ≤ length f
head_length f e =
    let h = holds (less 0 (length f) and same (length f % 512) 0) (true_is _ e) in
    omega arith

pub rest_is : (f : List ℕ) (n len : ℕ) →
    first_failing (rest_tests f n len) ≡
    pick (eqb (length f) (file_size n))
    (pick (leb n len)
    (pick (eqb (first_failing (blocks_tests f 1 (blocks_for n))) 0)
    (pick (test (zeros (image_words f n (blocks_for n * 126 - n)))) 0 22)
    (first_failing (blocks_tests f 1 (blocks_for n))))
    2)
    19
unfolding rest_tests
rest_is f n len = rw (first_append (blocks_tests f 1 (blocks_for n)) _ (blocks_positive f 1 (blocks_for n)))

head_positive : (f : List ℕ) → T (positive (head_tests f))
unfolding head_tests block_tests
head_positive f = tt

pub load_is : (f : List ℕ) (len : ℕ) →
    load_number f len ≡ pick (eqb (first_failing (head_tests f)) 0) (first_failing (rest_tests f (word_at f 1) len)) (first_failing (head_tests f))
unfolding load_number
load_is f len = first_append (head_tests f) (rest_tests f (word_at f 1) len) (head_positive f)

-- the filling of the last block lies side by side
pub last_filling : (f : List ℕ) (n left : ℕ) → 0 < n → blocks_for n * 126 ≡ n + left →
    image_words f n left ≡ words_at f (blocks_for n * 128 + 127 - left) left
last_filling f n left h e =
    let a : (blocks_for n - 1) * 126 + (126 - left) ≡ n = omega arith in
    let b : (blocks_for n - 1) * 128 + 129 + (126 - left) ≡ blocks_for n * 128 + 127 - left = omega arith in
    rw (a, b) at (in_block f (blocks_for n - 1) (126 - left) left (omega arith))

pub zero_filling : (f : List ℕ) (n m : ℕ) (r : Bool) → 0 < n → m ≡ blocks_for n →
    r ≡ test (zeros (words_at f (m * 128 + 127 - (m * 126 - n)) (m * 126 - n))) → r ≡ test (zeros (image_words f n (blocks_for n * 126 - n)))
zero_filling f n m r h e z = rw (last_filling f n (blocks_for n * 126 - n) h (omega arith)) (rw e at z)

-- what no refusal says of the length and block 0, and of the rest
pub head_passed : (f : List ℕ) → first_failing (head_tests f) ≡ 0 → (512 ≤ length f) × (0 < word_at f 1) × (word_at f 1 ≤ 32768)
unfolding head_tests block_tests lawful
head_passed f e =
    let h = obeyed (head_tests f) (numbered (head_tests f) tt) e in
    let l = h.0 in
    let c = h.1.1.1.1.0.0 in
    (omega arith, c.1.0, c.1.1)

chosen : (b : Bool) (k n : ℕ) → 0 < n → pick b k n ≡ 0 → T b × (k ≡ 0)
unfolding pick
chosen true k n h e = (tt, e)
chosen false k n h e = absurd (omega arith)

pub rest_passed : (f : List ℕ) (n len : ℕ) → first_failing (rest_tests f n len) ≡ 0 → (length f ≡ file_size n) × (n ≤ len)
rest_passed f n len e =
    let a = chosen (eqb (length f) (file_size n)) _ 19 (omega arith) (rw rest_is at e) in
    let b = chosen (leb n len) _ 2 (omega arith) a.1 in
    (eqb→eq _ _ a.0, leb→le _ _ b.0)

-- the loader's answers
pub load_refused_head : (f image : List ℕ) (x : Refusal) → refusal_number x ≡ first_failing (head_tests f) →
    Loads f image (Err x) image
unfolding load_of pick load_answer
load_refused_head f image x e =
    let n : first_failing (head_tests f) ≡ refusal_number x = sym e in
    rw (load_is, n, ne_eqb (refusal_number x) 0 (numbered_one x), ne_eqb (refusal_number x) 0 (numbered_one x))

pub load_refused_rest : (f image : List ℕ) (x : Refusal) → first_failing (head_tests f) ≡ 0 →
    refusal_number x ≡ first_failing (rest_tests f (word_at f 1) (length image)) →
    Loads f image (Err x) image
unfolding load_of pick load_answer
load_refused_rest f image x z e =
    let n : first_failing (rest_tests f (word_at f 1) (length image)) ≡ refusal_number x = sym e in
    rw (load_is, z, n, ne_eqb (refusal_number x) 0 (numbered_one x))

pub load_passed : (f image after : List ℕ) (c : Config) → first_failing (head_tests f) ≡ 0 →
    first_failing (rest_tests f (word_at f 1) (length image)) ≡ 0 → c ≡ config_of f → after ≡ sets image 0 (image_words f 0 (word_at f 1)) →
    Loads f image (Ok c) after
unfolding load_of pick load_answer
load_passed f image after c z e d w =
    let n = word_at f 1 in
    let m = length_words (image_word f) 0 n in
    let p : n ≤ length image = (rest_passed f n (length image) e).1 in
    let s : sets image 0 (image_words f 0 n) ≡ image_words f 0 n ++ drop n image =
    rw (m, zero-add) at (sets-eq (image_words f 0 n) image 0 (omega arith)) in
    rw (load_is, z, e, d, w, s)
