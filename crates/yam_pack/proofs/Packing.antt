-- What comes of the two texts, by the answers of the calls. Assumes nothing.
use Prim.Native.Nat.{ℕ, ◌+◌, ◌<◌, ◌≤◌}
use mathlib.Core.Path.{◌≡◌, refl, sym, ap, ◌∙◌}
use mathlib.Core.Bool.{Bool, true, false}
use mathlib.Core.List.{List, ◌++◌}
use native.Mathlib.Omega.{arith}
use native.Mathlib.Nat.{zero-add}
use borrow.Author.Tests.{ne_eqb, le-leb, lt-leb, eqb-true, eqb-false}
use lib.Dec.{eqb, leb}
use lib.ListN.{length, take, drop, length-append}
use lib.Seq.{sets, sets-eq, length-sets, take_at, length-take-le}
use Rattle.laws.specs.Choice.{pick}
use Rattle.laws.specs.Test.{Holds}
use Rattle.laws.specs.First.{first_failing, numbered, obeyed, none_fails}
use Rattle.words.specs.declared.Config.{Config}
use Rattle.words.specs.Configs.{lawful}
use Rattle.image.specs.File.{blocks_for, file_size}
use Rattle.image.specs.Storing.{Store, store_tests, store_of, block_of, blocks_of, head_of, file_of}
use Rattle.image.specs.Claims.{Stores}
use Rattle.image.specs.declared.Refusal.{Refusal}
use Rattle.image.specs.Answers.{refusal_number, number_of}
use Rattle.image.proofs.Answers.{numbered as refusal_numbered}
use Rattle.image.proofs.storing.Laws.{length_bytes, length_block, length_blocks}
use Rattle.std.proofs.Common.{Result, Ok, Err}
use Rattle.parsing.specs.declared.BadEntry.{BadEntry}
use Rattle.parsing.specs.declared.BadLine.{BadLine}
use Rattle.parsing.specs.Words.{Reading, good, bad, words_in, Call, call, call_of}
use Rattle.parsing.specs.Generics.{Gathered, all, malformed, gathered_in, config_of, generics_of}
use Rattle.parsing.specs.Claims.{ReadsWords, NamesGenerics}
use Rattle.text.specs.Pages.{written}
use Rattle.printing.specs.Puts.{Puts}
use Rattle.yam_pack.specs.declared.errors.PackError.{PackError}
use Rattle.yam_pack.specs.declared.errors.PackError.TheVariants.{TooLong, BadEntry as WrongEntry, BadLine as WrongLine, Refused}
use Rattle.yam_pack.specs.Packing.{long, entry, line, refused, file, config_bytes, text_bytes, most_words, pack_tests, image_of, with_words, with_config, packed_of, text_of, printed_of}
use Rattle.yam_pack.specs.Claims.{text_of_error, Packs}

-- The image of so many words

pub passed : (c : Config) (n : ℕ) → first_failing (pack_tests c n) ≡ 0 → Holds (lawful c) × (n ≡ c.imsize) × (n ≤ most_words)
unfolding pack_tests
passed c n e =
    let o = obeyed (pack_tests c n) (numbered (pack_tests c n) tt) e in
    (o.0, o.1.0, o.1.1.0)

is_refused : (c : Config) (n : ℕ) (ws : List ℕ) (number : ℕ) → number ≡ first_failing (pack_tests c n) → (number ≡ 0 → ⊥) → refused number ≡ image_of c n ws
unfolding image_of pick
is_refused c n ws number e h = rw (← e, ne_eqb number 0 h)

image_is : (c : Config) (n : ℕ) (ws : List ℕ) → first_failing (pack_tests c n) ≡ 0 → image_of c n ws ≡ file (file_of c ws)
unfolding image_of pick
image_is c n ws e = rw e

length_file : (c : Config) (ws : List ℕ) → length (file_of c ws) ≡ file_size c.imsize
unfolding file_of
length_file c ws =
    let first = block_of 0 (head_of c) 0 in
    let rest = blocks_of 1 ws 0 (blocks_for c.imsize) in
    omega (arith, length_bytes (first ++ rest), length-append first rest, length_block 0 (head_of c) 0, length_blocks 1 ws 0 (blocks_for c.imsize))

-- words and a buffer of the right lengths are stored

module _ (c : Config) (ws buffer after : List ℕ) (l : Holds (lawful c)) (n : length ws ≡ c.imsize) (m : length buffer ≡ file_size c.imsize) where
  all_pass : first_failing (store_tests c (length ws) (length buffer)) ≡ 0
  unfolding store_tests
  all_pass = none_fails (store_tests c (length ws) (length buffer)) (l, (n, (m, tt)))

  stored_file : (r : Result (Unit {0}) Refusal) → Stores c ws buffer r after → after ≡ file_of c ws
  unfolding store_of pick
  stored_file r s = ap (λ (x : Store). x.file) s.answer ∙ rw all_pass

  not_refused : (e : Refusal) → Stores c ws buffer (Err e) after → ⊥
  unfolding store_of number_of
  not_refused e s = refusal_numbered e (ap (λ (x : Store). x.number) s.answer ∙ all_pass)

module _ (c : Config) (n : ℕ) (words p : List ℕ) where
  pub packs_refused : (e : Refusal) → refusal_number e ≡ first_failing (pack_tests c n) → Packs (image_of c n (take n words)) p (Err (Refused e)) p
  packs_refused e q = (sym (is_refused c n (take n words) (refusal_number e) q (refusal_numbered e)), refl)

  module _ (after : List ℕ) (size : ℕ) (z : 0 ≡ first_failing (pack_tests c n)) (lw : length words ≡ most_words) (lp : length p ≡ 34304)
      (s : (size ≡ file_size n) × (size ≤ 34304)) where
    all_words : length (take n words) ≡ c.imsize
    all_words = let o = passed c n (sym z) in let o2 = o.2 in length-take-le n words (omega arith) ∙ o.1

    of_size : size ≡ file_size c.imsize
    of_size = let o1 = (passed c n (sym z)).1 in let s0 = s.0 in rw o1 at s0

    whole_buffer : length (take size p) ≡ file_size c.imsize
    whole_buffer = let s1 = s.1 in length-take-le size p (omega arith) ∙ of_size

    pub packs_stored : (e : Refusal) → Stores c (take n words) (take size p) (Err e) after → ⊥
    packs_stored e st = not_refused c (take n words) (take size p) after (passed c n (sym z)).0 all_words whole_buffer e st

    pub packs_file : (r : Result (Unit {0}) Refusal) → Stores c (take n words) (take size p) r after → Packs (image_of c n (take n words)) p (Ok size) (after ++ drop size p)
    packs_file r st =
        let s1 = s.1 in
        let a : after ≡ file_of c (take n words) =
        stored_file c (take n words) (take size p) after (passed c n (sym z)).0 all_words whole_buffer r st in
        let l : length (file_of c (take n words)) ≡ size = length_file c (take n words) ∙ sym of_size in
        let g : after ++ drop size p ≡ sets p 0 (file_of c (take n words)) =
        rw (a, sets-eq (file_of c (take n words)) p 0 (omega arith), l, zero-add) in
        (file_of c (take n words), image_is c n (take n words) (sym z), sym l, g)

-- what stands beyond the words that there is room for does not matter, as more are refused
image_same : (c : Config) (lent ws : List ℕ) → length lent ≡ most_words → image_of c (length ws) (take (length ws) (sets lent 0 ws)) ≡ image_of c (length ws) ws
image_same c lent ws h = go (eqb (first_failing (pack_tests c (length ws))) 0) refl
  where
    go : (b : Bool) → eqb (first_failing (pack_tests c (length ws))) 0 ≡ b →
        image_of c (length ws) (take (length ws) (sets lent 0 ws)) ≡ image_of c (length ws) ws
    go true e =
        let p = (passed c (length ws) (eqb-true _ 0 e)).2 in
        ap (image_of c (length ws)) (ap (take (length ws)) (sets-eq ws lent 0 (omega arith)) ∙ take_at ws (drop (0 + length ws) lent) (length ws) refl)
    go false e =
        let z = eqb-false (first_failing (pack_tests c (length ws))) 0 e in
        sym (is_refused c (length ws) (take (length ws) (sets lent 0 ws)) _ refl z) ∙ is_refused c (length ws) ws _ refl z

-- The texts, in their order

module _ (config text p : List ℕ) where
  pub config_long : config_bytes < length config → Packs (packed_of config text) p (Err (TooLong config_bytes)) p
  unfolding packed_of pick
  config_long h = (rw (lt-leb (length config) config_bytes h), refl)

  module _ (short : length config ≤ config_bytes) where
    first : packed_of config text ≡ with_config (gathered_in config) text
    unfolding packed_of pick
    first = rw (le-leb (length config) config_bytes short)

    pub bad_entry : (e : BadEntry) → NamesGenerics config (Err e) → Packs (packed_of config text) p (Err (WrongEntry e.entry)) p
    bad_entry e n = (first ∙ go (gathered_in config) n.answer, refl)
      where
        go : (x : Gathered) → Err e ≡ generics_of x → with_config x text ≡ entry e.entry
        go (all vs) q = cc
        go (malformed k) q = let i : e ≡ record { entry = k } = cc in rw i

    module _ (c : Config) (n : NamesGenerics config (Ok c)) where
      second : packed_of config text ≡ pick (leb (length text) text_bytes) (with_words c (words_in text)) (long text_bytes)
      second = first ∙ go (gathered_in config) n.answer
        where
          go : (x : Gathered) → Ok c ≡ generics_of x → with_config x text ≡ pick (leb (length text) text_bytes) (with_words c (words_in text)) (long text_bytes)
          go (all vs) q = let i : c ≡ config_of vs = cc in rw i
          go (malformed m) q = cc

      pub text_long : text_bytes < length text → Packs (packed_of config text) p (Err (TooLong text_bytes)) p
      unfolding pick
      text_long h = (second ∙ rw (lt-leb (length text) text_bytes h), refl)

      module _ (few : length text ≤ text_bytes) (lent after : List ℕ) where
        third : packed_of config text ≡ with_words c (words_in text)
        unfolding pick
        third = second ∙ rw (le-leb (length text) text_bytes few)

        pub bad_line : (e : BadLine) → ReadsWords text lent (Err e) after → Packs (packed_of config text) p (Err (WrongLine e.line)) p
        bad_line e r = (third ∙ go (words_in text) r.answer, refl)
          where
            go : (x : Reading) → call (Err e) after ≡ call_of x lent → with_words c x ≡ line e.line
            go (good ws) q = let i = ap (λ (y : Call). y.answer) q in cc
            go (bad k) q = let i = ap (λ (y : Call). y.answer) q in let j : e ≡ record { line = k } = cc in rw j

        pub packs_all : (count : ℕ) → ReadsWords text lent (Ok count) after → length lent ≡ most_words → (x : Result ℕ PackError) (q : List ℕ) →
            Packs (image_of c count (take count after)) p x q → Packs (packed_of config text) p x q
        packs_all count r m x q k = rw (third, ← go (words_in text) r.answer) k
          where
            go : (y : Reading) → call (Ok count) after ≡ call_of y lent → image_of c count (take count after) ≡ with_words c y
            go (good ws) e =
                let i = ap (λ (y : Call). y.answer) e in
                let n : count ≡ length ws = cc in
                let a : after ≡ sets lent 0 ws = ap (λ (y : Call). y.words) e in
                rw (n, a) (image_same c lent ws m)
            go (bad j) e = let i = ap (λ (y : Call). y.answer) e in cc

-- What is printed

file_put : (bytes p : List ℕ) → Puts p 0 bytes (length bytes) (sets p 0 bytes)
unfolding written
file_put bytes p = record {
  kept = length-sets p 0 bytes;
  fits = λ h. record { next = sym (zero-add (length bytes)); page = refl };
  over = λ h. omega arith;
}

module _ (config text p q : List ℕ) where
  pub file_printed : (n : ℕ) → Packs (packed_of config text) p (Ok n) q → Puts p 0 (printed_of config text) n q
  unfolding printed_of text_of
  file_printed n k = rw (k.1, k.2, k.3) (file_put k.0 p)

  pub error_printed : (u : List ℕ) (e : PackError) (m : ℕ) → Packs (packed_of config text) p (Err e) q → Puts q 0 (text_of_error e) m u →
      Puts p 0 (printed_of config text) m u
  unfolding printed_of
  error_printed u e m k f = rw (k.0, ← k.1) f
