-- Loading the file: its number has at most two digits, and what is to come of it is what its bytes print. Assumes nothing.
use Prim.Native.Nat.{ℕ, zero, suc, ◌-◌, ◌*◌, ◌<◌, ◌≤◌}
use mathlib.Core.Path.{◌≡◌, refl, sym, ap, ◌∙◌}
use mathlib.Core.Bool.{Bool, true, false}
use mathlib.Core.List.{List, [], ◌∷◌, ◌++◌}
use native.Mathlib.Omega.{arith}
use borrow.Author.Tests.{eqb-true, eqb-false, eq-eqb, ne_eqb, lt-leb, leb-true, leb-false}
use lib.Dec.{eqb, leb}
use lib.ListN.{length, take, drop, length-append, length-drop}
use lib.Seq.{take_all, take_at, length-take-le}
use Rattle.laws.specs.Choice.{pick, either}
use Rattle.laws.specs.First.{first_failing, Every, numbered, obeyed}
use Rattle.laws.specs.Test.{Test, test, Holds}
use Rattle.words.specs.declared.Config.{Config}
use Rattle.words.specs.Configs.{lawful}
use Rattle.std.proofs.Common.{Result, Ok, Err}
use Rattle.image.specs.File.{word_at, image_word, image_words, config_of, blocks_for}
use Rattle.image.specs.Loading.{Load, zeros, block_tests, blocks_tests, head_tests, rest_tests, load_number, no_config, load_of}
use Rattle.image.proofs.Lists.{length_words}
use Rattle.image.proofs.loading.Laws.{load_is, rest_passed}
use Rattle.text.specs.Claims.{lines_to_end}
use Rattle.yam_list.specs.Printing.{word_limit, file_number, printed_of}
use Rattle.printing.specs.Numerals.{refusal_line}
use Rattle.opening.specs.declared.Refusal.{Refusal}
use Rattle.opening.specs.Opening.{file_limit, number_of, open_of, refusal_number, Answers}
use Rattle.yam_list.specs.Claims.{to_come, size_of, Ready, CutOff, Opens}
use Rattle.yam_list.proofs.Pages.{run_joined}

-- every number is below 100

abbrev Small : List (ℕ × Test) → Type 0
Small = Every (λ r. r.0 < 100)

small : (xs : List (ℕ × Test)) → Small xs → first_failing xs < 100
small [] h = omega arith
small (x ∷ xs) h = either (λ (n : ℕ). n < 100) (test x.1) (first_failing xs) x.0 (λ _. small xs h.1) (λ _. h.0)

small_append : (xs ys : List (ℕ × Test)) → Small xs → Small ys → Small (xs ++ ys)
small_append [] ys h k = k
small_append (x ∷ xs) ys h k = (h.0, small_append xs ys h.1 k)

blocks_small : (f : List ℕ) (b n : ℕ) → Small (blocks_tests f b n)
unfolding blocks_tests block_tests
blocks_small f b zero = tt
blocks_small f b (suc n) = (omega arith, (omega arith, blocks_small f (suc b) n))

load_small : (f : List ℕ) (len : ℕ) → load_number f len < 100
unfolding load_number head_tests rest_tests block_tests
load_small f len =
    let n = word_at f 1 in
    let blocks = small_append (blocks_tests f 1 (blocks_for n)) ((22, zeros (image_words f n (blocks_for n * 126 - n))) ∷ []) (blocks_small f 1 (blocks_for n)) (omega arith, tt) in
    small (head_tests f ++ rest_tests f n len)
    (omega arith, (omega arith, (omega arith, (omega arith, (omega arith, (omega arith, (omega arith, blocks)))))))

-- what a load answers

load_number_lem : (f image : List ℕ) → (load_of f image).number ≡ load_number f (length image)
unfolding load_of pick
load_number_lem f image = go (eqb (load_number f (length image)) 0) refl
  where
    go : (b : Bool) → eqb (load_number f (length image)) 0 ≡ b →
        (pick {A = Load} b (record { number = 0; config = config_of f; image = image_words f 0 (word_at f 1) ++ drop (word_at f 1) image })
        (record { number = load_number f (length image); config = no_config; image = image })).number ≡ load_number f (length image)
    go true e = sym (eqb-true _ 0 e)
    go false e = refl

both : (b : Bool) (k n : ℕ) → (b ≡ false → n ≡ 0 → ⊥) → pick b k n ≡ 0 → (b ≡ true) × (k ≡ 0)
unfolding pick
both true k n h e = (refl, e)
both false k n h e = absurd (h refl e)

module _ (f image : List ℕ) (z : load_number f (length image) ≡ 0) where
  passes : (first_failing (head_tests f) ≡ 0) × (first_failing (rest_tests f (word_at f 1) (length image)) ≡ 0)
  passes =
      let h = first_failing (head_tests f) in
      let b = both (eqb h 0) _ h (λ e. eqb-false h 0 e) (sym (load_is f (length image)) ∙ z) in
      (eqb-true h 0 b.0, b.1)

  config_lawful : Holds (lawful (config_of f))
  unfolding head_tests block_tests
  config_lawful = (obeyed (head_tests f) (numbered (head_tests f) tt) passes.0).1.1.1.1.0

  words_held : word_at f 1 ≤ length image
  words_held = (rest_passed f (word_at f 1) (length image) passes.1).1

  loaded_is : ◌≡◌ {A = Load} (load_of f image) (record { number = 0; config = config_of f; image = image_words f 0 (word_at f 1) ++ drop (word_at f 1) image })
  unfolding load_of pick
  loaded_is = rw (eq-eqb (load_number f (length image)) 0 z)

load_length : (f image : List ℕ) → length (load_of f image).image ≡ length image
unfolding load_of pick
load_length f image = go (eqb (load_number f (length image)) 0) refl
  where
    go : (b : Bool) → eqb (load_number f (length image)) 0 ≡ b →
        length (pick {A = Load} b (record { number = 0; config = config_of f; image = image_words f 0 (word_at f 1) ++ drop (word_at f 1) image })
        (record { number = load_number f (length image); config = no_config; image = image })).image ≡ length image
    go true e =
        let n = word_at f 1 in
        length-append (image_words f 0 n) (drop n image)
        ∙ omega (arith, length_words (image_word f) 0 n, length-drop n image, words_held f image (eqb-true (load_number f (length image)) 0 e))
    go false e = refl

-- the limit on the file

long_printed : (f : List ℕ) → file_limit < length f → printed_of f ≡ refusal_line 2
unfolding printed_of file_number number_of pick
long_printed f h = rw (lt-leb (length f) file_limit h)

cut_off : CutOff
cut_off f = go (leb (length f) file_limit) refl
  where
    go : (b : Bool) → leb (length f) file_limit ≡ b → printed_of (take (suc file_limit) f) ≡ printed_of f
    go true e = ap printed_of (take_all (suc file_limit) f (omega (arith, leb-true (length f) file_limit e)))
    go false e =
        let h = leb-false (length f) file_limit e in
        let n : length (take (suc file_limit) f) ≡ suc file_limit = length-take-le (suc file_limit) f (omega arith) in
        long_printed (take (suc file_limit) f) (omega (arith, n)) ∙ sym (long_printed f h)

-- what loading the file answers

module _ (f image after : List ℕ) (size : length image ≡ word_limit) where
  number_is : (load_of f image).number ≡ load_number f word_limit
  number_is = load_number_lem f image ∙ ap (load_number f) size

  open_number : (open_of f image).number ≡ file_number f
  unfolding open_of file_number
  open_number = ap (number_of (length f)) number_is

  open_small : (open_of f image).number < 100
  unfolding open_of number_of
  open_small = either (λ (k : ℕ). k < 100) (leb (length f) file_limit) (load_of f image).number 2 (λ _. rw number_is (load_small f word_limit)) (λ _. omega arith)

  -- a file that was opened
  module _ (c : Config) (a : Answers (open_of f image) (Ok c) after) where
    passed : load_number f (length image) ≡ 0
    unfolding open_of number_of
    passed =
        sym (load_number_lem f image)
        ∙ (both (leb (length f) file_limit) (load_of f image).number 2 (λ _ k. absurd (omega (arith, k))) (sym a.number)).1

    config_is : c ≡ config_of f
    unfolding open_of
    config_is = a.config ∙ ap (λ (r : Load). r.config) (loaded_is f image passed)

    image_is : after ≡ image_words f 0 (word_at f 1) ++ drop (word_at f 1) image
    unfolding open_of
    image_is = a.image ∙ ap (λ (r : Load). r.image) (loaded_is f image passed)

    words_are : take (word_at f 1) after ≡ image_words f 0 (word_at f 1)
    words_are = rw image_is (take_at (image_words f 0 (word_at f 1)) _ (word_at f 1) (length_words (image_word f) 0 (word_at f 1)))

    is_allowed : Holds (lawful c)
    is_allowed = rw config_is (config_lawful f image passed)

    is_held : c.imsize ≤ length after
    is_held =
        rw (config_is, image_is)
        (omega (arith, length-append (image_words f 0 (word_at f 1)) (drop (word_at f 1) image), length_words (image_word f) 0 (word_at f 1)))

    lines_are : lines_to_end c (take c.imsize after) 0 ≡ lines_to_end (config_of f) (image_words f 0 (config_of f).imsize) 0
    lines_are = rw config_is (ap (λ (i : List ℕ). lines_to_end (config_of f) i 0) words_are)

  is_ready : (l : Result Config Refusal) → Answers (open_of f image) l after → Ready l after
  is_ready (Ok c) a = record { short = tt; allowed = is_allowed c a; held = is_held c a }
  is_ready (Err e) a = record { short = let n = a.number in let s = open_small in omega arith; allowed = tt; held = tt }

  prints_file : (l : Result Config Refusal) → Answers (open_of f image) l after → to_come l after 0 ≡ printed_of f
  unfolding to_come printed_of pick
  prints_file (Ok c) a = rw (← open_number, ← a.number) (lines_are c a)
  prints_file (Err e) a = rw (← open_number, ← a.number, ne_eqb (refusal_number e) 0 a.refused)

  open_image : (open_of f image).image ≡ (load_of f image).image
  unfolding open_of
  open_image = refl

-- what `opening::open` answers and leaves
pub opened_opens : (f image after : List ℕ) (l : Result Config Refusal) → length image ≡ word_limit → Answers (open_of f image) l after → Opens f image l after
opened_opens f image after l size a = record {
  number = a.number ∙ open_number f image after size;
  loaded = a.image ∙ open_image f image after size;
  size = ap length (a.image ∙ open_image f image after size) ∙ load_length f image ∙ size;
  ready = is_ready f image after size l a;
  prints = prints_file f image after size l a;
  cut_off = cut_off;
  pages = λ ts h. run_joined (to_come l after) (size_of l) 0 ts h ∙ prints_file f image after size l a;
}
