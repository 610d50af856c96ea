-- A stored image loads back. Assumes nothing.
use Rattle.std.proofs.Common.{◌≡◌, ℕ, zero, suc, ◌+◌, ◌-◌, ◌*◌, ◌/◌, ◌%◌, ◌^◌, ◌<◌, ◌≤◌, true, List, [], ◌∷◌, ◌++◌, length, get_or, sym, refl, ap, ◌∙◌, add-zero, add-suc, suc-add, zero-add, add-one, arith, length-append, get_or-append-add, eq-eqb, ne_eqb, le-leb, Ok, Err}
use native.Mathlib.Nat.{div-div-eq-div-mul, mod-add-div'}
use lib.ListN.{get_or-append, get_or-eq_default}
use lib.Seq.{get_or_at}
use Rattle.laws.specs.Choice.{pick, is_true}
use Rattle.laws.specs.Test.{test, Holds, tests, less, same, ◌and◌, Below}
use Rattle.laws.specs.First.{first_failing, numbered, obeyed}
use Rattle.laws.specs.Cells.{below_at}
use Rattle.words.specs.declared.Config.{Config}
use Rattle.words.specs.Configs.{lawful}
use Rattle.image.specs.declared.Refusal.{Refusal}
use Rattle.image.specs.Answers.{refusal_number, number_of}
use Rattle.image.proofs.Answers.{numbered as numbered_one}
use Rattle.image.specs.File.{word_at, words_of, words_at, total, checksum, blocks_for, file_size, first_filling, config_of, image_word, image_words}
use Rattle.image.specs.Loading.{zeros, block_tests, blocks_tests, head_tests, rest_tests, load_of}
use Rattle.image.specs.Storing.{bytes_of, filled, block_of, blocks_of, head_of, file_of, store_tests, Store, store_of}
use Rattle.image.specs.Claims.{Words, loaded, StoreThenLoad, Stores}
use Rattle.image.proofs.Lists.{length_words, words_get_d, words_list, below_words, below_append}
use Rattle.image.proofs.Lawful.{size, fixed, small}
use Rattle.image.proofs.Refusals.{part_passes}
use Rattle.image.proofs.blocks.Laws.{block_right, block_positive}
use Rattle.image.proofs.loading.Laws.{head_is, rest_is, load_is}
use Rattle.image.proofs.storing.Laws.{length_bytes, length_block, length_blocks}

-- a word is its four bytes
four_bytes : (w : ℕ) → w < 0x100000000 →
    w % 256 + w / 256 % 256 * 256 + w / 65536 % 256 * 65536 + w / 16777216 % 256 * 16777216 ≡ w
four_bytes w h =
    let a : w / 256 / 256 ≡ w / 65536 = div-div-eq-div-mul w 256 256 in
    let b : w / 65536 / 256 ≡ w / 16777216 = div-div-eq-div-mul w 65536 256 in
    let p : w % 256 + w / 256 * 256 ≡ w = mod-add-div' w 256 in
    let q : w / 256 % 256 + w / 256 / 256 * 256 ≡ w / 256 = mod-add-div' (w / 256) 256 in
    let r : w / 65536 % 256 + w / 65536 / 256 * 256 ≡ w / 65536 = mod-add-div' (w / 65536) 256 in
    let s : w / 16777216 < 256 = omega arith in
    let t : w / 16777216 % 256 ≡ w / 16777216 = omega arith in
    sums (w % 256) (w / 256 % 256) (w / 65536 % 256) (w / 16777216) (w / 256) (w / 65536) (rw a at q) (rw b at r) p t
  where
    sums : (i j k l m n : ℕ) → j + n * 256 ≡ m → k + l * 256 ≡ n → i + m * 256 ≡ w → w / 16777216 % 256 ≡ l →
        i + j * 256 + k * 65536 + w / 16777216 % 256 * 16777216 ≡ w
    sums i j k l m n x y z v = rw v (omega arith)

-- a word that was written is read back
word_back : (ws : List ℕ) (i : ℕ) → ((k : ℕ) → get_or ws k 0 < 0x100000000) → word_at (bytes_of ws) i ≡ get_or ws i 0
unfolding word_at bytes_of
word_back [] i h = refl
word_back (w ∷ ws) zero h = four_bytes w (h 0)
word_back (w ∷ ws) (suc i) h =
    let a : suc i * 4 ≡ suc (suc (suc (suc (i * 4)))) = omega arith in
    let b : suc (suc (suc (suc (i * 4)))) + 1 ≡ suc (suc (suc (suc (i * 4 + 1)))) = omega arith in
    let c : suc (suc (suc (suc (i * 4)))) + 2 ≡ suc (suc (suc (suc (i * 4 + 2)))) = omega arith in
    let d : suc (suc (suc (suc (i * 4)))) + 3 ≡ suc (suc (suc (suc (i * 4 + 3)))) = omega arith in
    rw (a, b, c, d) (word_back ws i (λ k. h (suc k)))

-- the words of a block
first_word : (b : ℕ) (ws : List ℕ) (i : ℕ) → get_or (block_of b ws i) 0 0 ≡ b
unfolding block_of
first_word b ws i = refl

last_word : (b : ℕ) (ws : List ℕ) (i : ℕ) → get_or (block_of b ws i) 127 0 ≡ checksum (b ∷ filled ws i 126)
unfolding block_of
last_word b ws i = let n = length_words (λ k. get_or ws k 0) i 126 in get_or_at (b ∷ filled ws i 126) _ [] 0 127 (omega arith)

first_words : (b : ℕ) (ws : List ℕ) (i k : ℕ) → k < 127 → get_or (block_of b ws i) k 0 ≡ get_or (b ∷ filled ws i 126) k 0
unfolding block_of
first_words b ws i k h =
    let n = length_words (λ k. get_or ws k 0) i 126 in get_or-append (b ∷ filled ws i 126) (checksum (b ∷ filled ws i 126) ∷ []) 0 k (omega arith)

inner_word : (b : ℕ) (ws : List ℕ) (i m : ℕ) → m < 126 → get_or (block_of b ws i) (m + 1) 0 ≡ get_or ws (i + m) 0
inner_word b ws i m h = first_words b ws i (m + 1) (omega arith) ∙ rw add-one (words_get_d (λ k. get_or ws k 0) i 126 m h)

-- words that are zero
zero_words : (g : ℕ → ℕ) (i n : ℕ) → ((k : ℕ) → k < n → g (i + k) ≡ 0) → Below 1 (words_of g i n)
zero_words g i n e = below_words 1 g i n (λ k q. rw (e k q) (omega arith))

-- blocks that all pass
all_pass : (f : List ℕ) (b n : ℕ) → ((k : ℕ) → k < n → first_failing (block_tests f (b + k)) ≡ 0) → first_failing (blocks_tests f b n) ≡ 0
unfolding blocks_tests
all_pass f b zero e = refl
all_pass f b (suc n) e =
    let z : first_failing (block_tests f b) ≡ 0 = rw add-zero at (e 0 (omega arith)) in
    part_passes (block_tests f b) (blocks_tests f (suc b) n) (block_positive f b) z ∙
    all_pass f (suc b) n (λ k q. rw (suc-add, ← add-suc) (e (suc k) (omega arith)))

-- block b of a file whose words are those of block_of
module _ (f : List ℕ) (b : ℕ) (ws : List ℕ) (i : ℕ) (at : (j : ℕ) → j < 128 → word_at f (b * 128 + j) ≡ get_or (block_of b ws i) j 0) where
  words_are : words_at f (b * 128) 127 ≡ b ∷ filled ws i 126
  words_are =
      let t = b ∷ filled ws i 126 in
      let n : length t ≡ 127 = ap suc (length_words (λ k. get_or ws k 0) i 126) in
      rw n at (words_list (word_at f) (b * 128) t (λ k q. at k (omega arith) ∙ first_words b ws i k (omega arith)))

  pub block_passes : first_failing (block_tests f b) ≡ 0
  block_passes =
      sym (block_right f b (rw add-zero at (at 0 (omega arith) ∙ first_word b ws i)) (at 127 (omega arith) ∙ last_word b ws i ∙ rw words_are))

-- the blocks of the image, and where each stands in them
block_in : (ws : List ℕ) (b i n k j : ℕ) → k < n → j < 128 → get_or (blocks_of b ws i n) (k * 128 + j) 0 ≡ get_or (block_of (b + k) ws (i + k * 126)) j 0
unfolding blocks_of
block_in ws b i zero k j h q = absurd (omega arith)
block_in ws b i (suc n) zero j h q =
    let l = length_block b ws i in
    let x : b + 0 ≡ b = omega arith in
    let y : i + 0 * 126 ≡ i = omega arith in
    let z : 0 * 128 + j ≡ j = omega arith in
    rw (x, y, z) (get_or-append (block_of b ws i) (blocks_of (suc b) ws (i + 126) n) 0 j (omega arith))
block_in ws b i (suc n) (suc k) j h q =
    let l = length_block b ws i in
    let a : suc k * 128 + j ≡ length (block_of b ws i) + (k * 128 + j) = omega arith in
    let d : i + suc k * 126 ≡ i + 126 + k * 126 = omega arith in
    let y : b + suc k ≡ suc b + k = omega arith in
    rw (a, get_or-append-add (block_of b ws i) (blocks_of (suc b) ws (i + 126) n) (k * 128 + j) 0, d, y)
    (block_in ws (suc b) (i + 126) n k j (omega arith) q)

-- the words of the file are below 2^32
small_block : (b : ℕ) (ws : List ℕ) (i : ℕ) → b < 0x100000000 → Words ws → Below 0x100000000 (block_of b ws i)
unfolding block_of checksum
small_block b ws i q h =
    let t = b ∷ filled ws i 126 in
    let c : (total t + 512) % 2 ^ 32 < 0x100000000 = omega arith in
    below_append 0x100000000 t (checksum t ∷ []) (q, below_words 0x100000000 (λ k. get_or ws k 0) i 126 (λ k q. h (i + k))) (c, tt)

small_blocks : (ws : List ℕ) (b i n : ℕ) → b + n < 0x100000000 → Words ws → Below 0x100000000 (blocks_of b ws i n)
unfolding blocks_of
small_blocks ws b i zero q h = tt
small_blocks ws b i (suc n) q h =
    below_append 0x100000000 (block_of b ws i) (blocks_of (suc b) ws (i + 126) n) (small_block b ws i (omega arith) h)
    (small_blocks ws (suc b) (i + 126) n (omega arith) h)

length_head : (c : Config) → length (head_of c) ≡ first_filling - 1
unfolding head_of
length_head c = refl

-- a file that was stored, of a lawful configuration and an image of its length
module _ (c : Config) (image : List ℕ) (l : Holds (lawful c)) (n : length image ≡ c.imsize) (h : Words image) where
  words : List ℕ
  words = block_of 0 (head_of c) 0 ++ blocks_of 1 image 0 (blocks_for c.imsize)

  file_word : (i : ℕ) → word_at (file_of c image) i ≡ get_or words i 0
  unfolding file_of words
  file_word i =
      let s = size c l in
      let a = small_block 0 (head_of c) 0 (omega arith) (λ k. below_at 0x100000000 (head_of c) k (omega arith) (small c l)) in
      let b = small_blocks image 1 0 (blocks_for c.imsize) (omega arith) h in
      word_back words i (λ k. below_at 0x100000000 words k (omega arith) (below_append 0x100000000 (block_of 0 (head_of c) 0) (blocks_of 1 image 0 (blocks_for c.imsize)) a b))

  head_block : (j : ℕ) → j < 128 → word_at (file_of c image) (0 * 128 + j) ≡ get_or (block_of 0 (head_of c) 0) j 0
  unfolding words
  head_block j q =
      let z : 0 * 128 + j ≡ j = omega arith in
      let k = length_block 0 (head_of c) 0 in
      file_word (0 * 128 + j) ∙ rw z (get_or-append (block_of 0 (head_of c) 0) (blocks_of 1 image 0 (blocks_for c.imsize)) 0 j (omega arith))

  image_block : (k : ℕ) → k < blocks_for c.imsize → (j : ℕ) → j < 128 →
      word_at (file_of c image) ((1 + k) * 128 + j) ≡ get_or (block_of (1 + k) image (k * 126)) j 0
  unfolding words
  image_block k p j q =
      let t = length_block 0 (head_of c) 0 in
      let a : (1 + k) * 128 + j ≡ length (block_of 0 (head_of c) 0) + (k * 128 + j) = omega arith in
      let z : 0 + k * 126 ≡ k * 126 = omega arith in
      file_word ((1 + k) * 128 + j) ∙
      (rw (a, get_or-append-add (block_of 0 (head_of c) 0) (blocks_of 1 image 0 (blocks_for c.imsize)) (k * 128 + j) 0)
      (rw z at (block_in image 1 0 (blocks_for c.imsize) k j p q)))

  -- what block 0 carries
  head_word : (m : ℕ) → m < 126 → word_at (file_of c image) (m + 1) ≡ get_or (head_of c) m 0
  head_word m q =
      let z : 0 * 128 + (m + 1) ≡ m + 1 = omega arith in
      (rw z at (head_block (m + 1) (omega arith))) ∙ inner_word 0 (head_of c) 0 m q ∙ rw zero-add

  config_back : config_of (file_of c image) ≡ c
  unfolding head_of
  config_back =
      let f = fixed c l in
      let same : config_of (file_of c image) ≡ record {
        imwidth = c.imwidth;
        imsize = c.imsize;
        regwidth = c.regwidth;
        regsize = c.regsize;
        rmsize = c.rmsize;
        pcstack = c.pcstack;
        dmsize = c.dmsize;
        dmpipe = c.dmpipe;
        alulevel = c.alulevel;
        alumult = c.alumult;
        aluspr = c.aluspr;
        iopif = c.iopif;
        ioprmw = c.ioprmw;
        yamclk = c.yamclk;
        yamsreg3 = c.yamsreg3;
        alu3op = c.alu3op;
        irqif = c.irqif;
        copmsize = c.copmsize;
        yamdbg = c.yamdbg;
      } =
      rw (
        head_word 0 (omega arith),
        head_word 1 (omega arith),
        head_word 2 (omega arith),
        head_word 3 (omega arith),
        head_word 4 (omega arith),
        head_word 5 (omega arith),
        head_word 6 (omega arith),
        head_word 7 (omega arith),
        head_word 8 (omega arith),
        head_word 9 (omega arith),
        head_word 10 (omega arith),
        head_word 11 (omega arith),
        head_word 12 (omega arith),
        head_word 13 (omega arith),
        f.imwidth,
        f.alu3op,
        f.irqif,
        f.copmsize,
        f.yamdbg,
      ) in
      same

  size_back : word_at (file_of c image) 1 ≡ c.imsize
  unfolding head_of
  size_back = head_word 0 (omega arith)

  -- the image's word i
  image_word_lem : (i : ℕ) → i < blocks_for c.imsize * 126 → image_word (file_of c image) i ≡ get_or image i 0
  unfolding image_word
  image_word_lem i q =
      let k : i / 126 < blocks_for c.imsize = omega arith in
      let a : (1 + i / 126) * 128 + 1 + i % 126 ≡ (1 + i / 126) * 128 + (i % 126 + 1) = omega arith in
      let b : i / 126 * 126 + i % 126 ≡ i = omega arith in
      rw a (image_block (i / 126) k (i % 126 + 1) (omega arith) ∙ inner_word (1 + i / 126) image (i / 126 * 126) (i % 126) (omega arith) ∙ rw b)

  file_length : length (file_of c image) ≡ file_size c.imsize
  unfolding file_of
  file_length =
      let b = blocks_for c.imsize in
      let k = length_block 0 (head_of c) 0 in
      let j = length_blocks 1 image 0 b in
      let a = length-append (block_of 0 (head_of c) 0) (blocks_of 1 image 0 b) in
      omega (arith, length_bytes (block_of 0 (head_of c) 0 ++ blocks_of 1 image 0 b))

  -- block 0 and the length pass
  head_passes : first_failing (head_tests (file_of c image)) ≡ 0
  unfolding pick
  head_passes =
      let f = file_of c image in
      let b = blocks_for c.imsize in
      let k = file_length in
      let t : test (less 0 (length f) and same (length f % 512) 0) ≡ true =
      is_true _ (tests (less 0 (length f) and same (length f % 512) 0) (omega arith, omega arith)) in
      let z : test (zeros (words_at f first_filling (127 - first_filling))) ≡ true = is_true _ (tests (zeros (words_at f first_filling (127 - first_filling))) filling) in
      let y : test (lawful (config_of f)) ≡ true = rw config_back (is_true _ (tests (lawful c) l)) in
      rw (head_is, t, block_passes f 0 (head_of c) 0 head_block, z, y)
    where
      past : (k : ℕ) → k < 127 - first_filling → word_at (file_of c image) (first_filling + k) ≡ 0
      past k q =
          let a : first_filling + k ≡ first_filling - 1 + k + 1 = omega arith in
          let e = length_head c in
          rw a (head_word (first_filling - 1 + k) (omega arith) ∙ get_or-eq_default (head_of c) 0 (omega arith))

      filling : Below 1 (words_at (file_of c image) first_filling (127 - first_filling))
      filling = zero_words (word_at (file_of c image)) first_filling (127 - first_filling) past

  rest_passes : (len : ℕ) → c.imsize ≤ len → first_failing (rest_tests (file_of c image) c.imsize len) ≡ 0
  unfolding pick
  rest_passes len q =
      let f = file_of c image in
      let z : test (zeros (image_words f c.imsize (blocks_for c.imsize * 126 - c.imsize))) ≡ true =
      is_true _ (tests (zeros (image_words f c.imsize (blocks_for c.imsize * 126 - c.imsize))) filling) in
      rw (rest_is, eq-eqb _ _ file_length, le-leb _ _ q, blocks, z)
    where
      past : (k : ℕ) → k < blocks_for c.imsize * 126 - c.imsize → image_word (file_of c image) (c.imsize + k) ≡ 0
      past k p = image_word_lem (c.imsize + k) (omega arith) ∙ get_or-eq_default image 0 (omega arith)

      filling : Below 1 (image_words (file_of c image) c.imsize (blocks_for c.imsize * 126 - c.imsize))
      filling = zero_words (image_word (file_of c image)) c.imsize (blocks_for c.imsize * 126 - c.imsize) past

      blocks : first_failing (blocks_tests (file_of c image) 1 (blocks_for c.imsize)) ≡ 0
      blocks = all_pass (file_of c image) 1 (blocks_for c.imsize) (λ k p. block_passes (file_of c image) (1 + k) image (k * 126) (image_block k p))

  pub loads_back : (before : List ℕ) → length image ≤ length before → load_of (file_of c image) before ≡ loaded c image before
  unfolding load_of pick
  loads_back before q =
      let w : image_words (file_of c image) 0 c.imsize ≡ image =
      rw n at (words_list (image_word (file_of c image)) 0 image (λ k p. rw zero-add (image_word_lem k (omega arith)))) in
      let v : image_words (file_of c image) 0 (word_at (file_of c image) 1) ≡ image = rw size_back w in
      let r : first_failing (rest_tests (file_of c image) (word_at (file_of c image) 1) (length before)) ≡ 0 =
      rw size_back (rest_passes (length before) (omega arith)) in
      rw (load_is, head_passes, r, config_back, v, size_back, n)

-- the theorem
pub store_then_load : StoreThenLoad
unfolding store_of store_tests pick
store_then_load c image file before h e q =
    let o = obeyed (store_tests c (length image) (length file)) (numbered (store_tests c (length image) (length file)) tt) e in
    rw e (loads_back c image o.0 o.1.0 h before q)

-- what `store` promises, on a refusal and on a pass
pub store_refused : (c : Config) (image file : List ℕ) (x : Refusal) → refusal_number x ≡ first_failing (store_tests c (length image) (length file)) →
    Stores c image file (Err x) file
unfolding store_of pick number_of
store_refused c image file x e =
    let n : first_failing (store_tests c (length image) (length file)) ≡ refusal_number x = sym e in
    record { answer = rw (n, ne_eqb (refusal_number x) 0 (numbered_one x)); back = store_then_load }

pub stored : (c : Config) (image file after : List ℕ) → first_failing (store_tests c (length image) (length file)) ≡ 0 → after ≡ file_of c image →
    Stores c image file (Ok tt) after
unfolding store_of pick number_of
stored c image file after z e =
    let a : ◌≡◌ {A = Store} (record { number = 0; file = after }) (store_of c image file) = rw (z, e) in
    record { answer = a; back = store_then_load }
