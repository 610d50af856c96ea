-- Laws of reading words, in the shape that the code leaves. Assumes nothing.
use Prim.Native.Nat.{ℕ, suc, ◌+◌, ◌*◌, ◌^◌, ◌<◌, ◌≤◌}
use mathlib.Core.Path.{◌≡◌, refl, sym, ap, ◌∙◌}
use mathlib.Core.Bool.{Bool, true, false, ◌&&◌}
use mathlib.Core.List.{List, [], ◌∷◌}
use native.Mathlib.Nat.{add-zero, zero-add, pow-suc, pow-le-pow_right}
use native.Mathlib.Numerals.{add-one}
use native.Mathlib.Omega.{arith}
use borrow.Author.Tests.{ne_eqb, lt-ltb, le-ltb}
use lib.Dec.{ltb}
use lib.ListN.{length, get_or, drop, set, drop_of_length-le, length-drop}
use lib.Seq.{drop-cons}
use Rattle.std.specs.Prelude.{Option, Some, None, Result, Ok, Err, ok_or}
use Rattle.std.specs.Char.{digit_value}
use Rattle.laws.specs.Choice.{pick}
use Rattle.parsing.specs.declared.BadLine.{BadLine}
use Rattle.parsing.specs.Words.{Reading, good, bad, hex_value, before, words_from, words_in, call, call_of}
use Rattle.parsing.specs.Claims.{FirstWord, whole, broken, outcome, outcome_of, Heard}
use Rattle.parsing.proofs.numbers.Laws.{digit_is}

-- The word of a line, byte by byte

module _ (d v : ℕ) (t : List ℕ) where
  pub ends_line : (d ≡ 0 → ⊥) → words_from d v (10 ∷ t) ≡ before v (words_from 0 0 t)
  unfolding words_from pick
  ends_line h = rw (ne_eqb d 0 h)

  pub one_digit : (b : ℕ) → (b ≡ 10 → ⊥) → hex_value b < 16 → d < 8 → words_from d v (b ∷ t) ≡ words_from (suc d) (16 * v + hex_value b) t
  unfolding words_from pick
  one_digit b h e k = rw (ne_eqb b 10 h, lt-ltb (hex_value b) 16 e, lt-ltb d 8 k)

-- i digits of value w were read

pub record Begun (t : List ℕ) (i w : ℕ) : Type 0 where
  pub few : i ≤ 8
  pub small : w < 16 ^ i
  pub same : words_from i w (drop i t) ≡ words_in t

pub begun_none : (t : List ℕ) → Begun t 0 0
unfolding words_in
begun_none t = record { few = omega arith; small = omega arith; same = refl }

module _ (t : List ℕ) (i w : ℕ) (p : Begun t i w) where
  module _ (h : i < length t) where
    here : words_in t ≡ words_from i w (get_or t i 0 ∷ drop (suc i) t)
    here = sym p.same ∙ ap (words_from i w) (drop-cons t i 0 h)

    pub empty_line : get_or t i 0 ≡ 10 → i ≡ 0 → FirstWord t None
    unfolding words_from pick
    empty_line e z = here ∙ rw (e, z) refl

    pub line_ends : get_or t i 0 ≡ 10 → (i ≡ 0 → ⊥) → FirstWord t (Some (w, i + 1))
    unfolding words_from words_in pick
    line_ends e n = (omega arith, omega arith, here ∙ rw (e, add-one) (ends_line i w (drop (suc i) t) n))

    module _ (n : get_or t i 0 ≡ 10 → ⊥) where
      pub too_long : i ≡ 8 → FirstWord t None
      unfolding words_from pick
      too_long e = here ∙ rw (ne_eqb (get_or t i 0) 10 n, le-ltb i 8 (omega arith)) (no (ltb (hex_value (get_or t i 0)) 16))
        where
          no : (b : Bool) → pick (b && false) (words_from (suc i) (16 * w + hex_value (get_or t i 0)) (drop (suc i) t)) (bad 1) ≡ bad 1
          no true = refl
          no false = refl

      module _ (byte : get_or t i 0 < 256) where
        pub no_digit : (digit_value (get_or t i 0) < 16 → ⊥) → FirstWord t None
        unfolding words_from pick
        no_digit m =
            let k = digit_is (get_or t i 0) byte in
            here ∙ rw (ne_eqb (get_or t i 0) 10 n, le-ltb (hex_value (get_or t i 0)) 16 (omega arith)) refl

        pub one_more : (i ≡ 8 → ⊥) → (d v : ℕ) → digit_value (get_or t i 0) < 16 → d ≡ digit_value (get_or t i 0) → v ≡ 16 * w + d → Begun t (i + 1) v
        one_more m d v k e f =
            let b = digit_is (get_or t i 0) byte in
            let q : d ≡ hex_value (get_or t i 0) = omega arith in
            let few = p.few in
            let small = p.small in
            let there = one_digit i w (drop (suc i) t) (get_or t i 0) n (omega arith) (omega arith) in
            record { few = omega arith; small = rw (f, add-one, pow-suc 16 i) (omega arith); same = rw (f, q, add-one) (sym (here ∙ there)) }

  pub last_line : length t ≤ i → i ≤ length t → 0 < length t → FirstWord t (Some (w, length t))
  unfolding words_from words_in pick
  last_line h k some =
      let z : (i ≡ 0 → ⊥) = λ e. omega arith in
      let nothing : drop (length t) t ≡ [] = drop_of_length-le t (omega arith) in
      let done : words_from i w (drop i t) ≡ good (w ∷ []) = rw (drop_of_length-le t h, ne_eqb i 0 z) refl in
      (some, omega arith, sym p.same ∙ done ∙ rw nothing refl)

-- a byte more keeps below 2^32
pub room : (i w d : ℕ) → i < 8 → w < 16 ^ i → d < 16 → 16 * w + d < 2 ^ 32
room i w d h k l =
    let m : 16 ^ i ≤ 16 ^ 7 = pow-le-pow_right {n = 16} (omega arith) {i = i} {j = 7} (omega arith) in
    omega arith

-- The lines of a text

pub no_word : {A : Type 0} (r : Option A) (e f : BadLine) → Err e ≡ ok_or r f → (r ≡ None) × (e ≡ f)
no_word None e f q = (refl, cc)
no_word (Some w) e f q = absurd (cc)

outcome_before : (r : Reading) (w n : ℕ) (l : List ℕ) → outcome_of (before w r) n l ≡ outcome_of r (n + 1) (set l n w)
outcome_before (good ws) w n l =
    let e : n + suc (length ws) ≡ n + 1 + length ws = omega arith in
    rw (e, add-one)
outcome_before (bad k) w n l = let e : n + suc k ≡ n + 1 + k = omega arith in rw e

-- the words of the lines before what is left are put
pub record Passed (text lent : List ℕ) (words : List ℕ) (count : ℕ) (rest : List ℕ) : Type 0 where
  pub few : count + length rest ≤ length text
  pub same : outcome_of (words_in rest) count words ≡ outcome_of (words_in text) 0 lent

pub passed_none : (text lent : List ℕ) → Passed text lent lent 0 text
passed_none text lent = record { few = omega arith; same = refl }

module _ (text lent words : List ℕ) (count : ℕ) (rest : List ℕ) (p : Passed text lent words count rest) where
  pub passed_more : (w n : ℕ) (put after : List ℕ) → FirstWord rest (Some (w, n)) → put ≡ set words count w → after ≡ drop n rest →
      Passed text lent put (count + 1) after
  passed_more w n put after g s a =
      let f = p.few in
      let d = length-drop n rest in
      let there : outcome_of (before w (words_in (drop n rest))) count words ≡ outcome_of (words_in text) 0 lent = rw g.2 at p.same in
      rw (s, a) (record { few = omega arith; same = sym (outcome_before (words_in (drop n rest)) w count words) ∙ there })

  pub passed_bad : (put : List ℕ) (e : BadLine) → FirstWord rest None → e ≡ record { line = count + 1 } → Heard text lent (Err e) put
  passed_bad put e g s = rw s (rw g at p.same)

  pub passed_all : length rest ≡ 0 → Heard text lent (Ok count) words
  unfolding words_from words_in pick
  passed_all h = go rest h p.same
    where
      go : (l : List ℕ) → length l ≡ 0 → outcome_of (words_in l) count words ≡ outcome_of (words_in text) 0 lent → Heard text lent (Ok count) words
      go [] h e = ap (λ (k : ℕ). whole k words) (sym (add-zero count)) ∙ e
      go (b ∷ t) h e = absurd (omega arith)

-- All or nothing: the words are put in a second go, after a first that found no line in another form

not_both : {A : Type 0} (n k : ℕ) (l : List ℕ) → whole n l ≡ broken k → A
not_both n k l e = cc

pub refuses : (text spare lent : List ℕ) (e : BadLine) (a : List ℕ) → Heard text spare (Err e) a → call (Err e) lent ≡ call_of (words_in text) lent
refuses text spare lent e a h = go (words_in text) h
  where
    go : (x : Reading) → broken e.line ≡ outcome_of x 0 spare → call (Err e) lent ≡ call_of x lent
    go (good ws) q = not_both _ _ _ (sym q)
    go (bad m) q = let k : e.line ≡ 0 + m = cc in rw (k, zero-add m)

pub takes : (text spare lent : List ℕ) (n : ℕ) (r : Result ℕ BadLine) (a after : List ℕ) → Heard text spare (Ok n) a → Heard text lent r after →
    call r after ≡ call_of (words_in text) lent
takes text spare lent n r a after h g = go (words_in text) r h g
  where
    go : (x : Reading) (r : Result ℕ BadLine) → whole n a ≡ outcome_of x 0 spare → outcome r after ≡ outcome_of x 0 lent → call r after ≡ call_of x lent
    go (bad m) r e f = not_both _ _ _ e
    go (good ws) (Err e) h f = not_both _ _ _ (sym f)
    go (good ws) (Ok k) e f = let z = zero-add (length ws) in cc
