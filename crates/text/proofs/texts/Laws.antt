-- From what the code computes to the text call and to what stands in a listing for a word.
-- Assumes nothing.
use Prim.Native.Nat.{ℕ, ◌+◌, ◌%◌, ◌<◌}
use mathlib.Core.Path.{◌≡◌}
use mathlib.Core.Bool.{true, false}
use mathlib.Core.List.{List, [], ◌∷◌, ◌++◌}
use native.Mathlib.Omega.{arith}
use borrow.Author.Tests.{lt-ltb, lt-leb, le-leb, ltb-true, ltb-false}
use lib.Dec.{ltb, leb}
use lib.ListN.{length}
use Rattle.std.specs.Prelude.{Ok, Err}
use Rattle.laws.specs.Choice.{pick}
use Rattle.laws.specs.Test.{test}
use Rattle.words.specs.declared.Config.{Config}
use Rattle.words.specs.declared.Instruction.{Instruction}
use Rattle.words.specs.declared.Refusal.{Refusal}
use Rattle.words.specs.declared.Refusal.TheVariants.{Unlawful, NoRow, Unavailable, OutOfRange}
use Rattle.words.specs.Configs.{lawful}
use Rattle.words.specs.Words.{read_lawful, read_of}
use Rattle.words.specs.Answers.{refusal_number, reading_of}
use Rattle.syntax.specs.Digits.{spelled, digit, hex}
use Rattle.syntax.specs.Forms.{text_of}
use Rattle.text.specs.declared.errors.TextError.TheVariants.{Unread, NoRoom, TooLong}
use Rattle.text.specs.Answers.{texted_of}
use Rattle.text.specs.Pages.{Wrote}
use Rattle.text.specs.Texts.{Text, text_number, printed, text_call, decimal, refused_text, shown_text, word_text, shown_call}

-- the text of an instruction that was read: no room, too long, or printed

module _ (t page f : List ℕ) (place n : ℕ) (same : f ≡ t) (size : n ≡ length f) where
  pub text_no_room : leb (place + n) (length page) ≡ false →
      texted_of (Err NoRoom) place page ≡ printed (text_number 0 t (length page) place) t page place
  unfolding text_number printed pick
  text_no_room h = rw (← same, ← size, h)

  pub text_long : leb (place + n) (length page) ≡ true → ltb 20 n ≡ true →
      texted_of (Err TooLong) place page ≡ printed (text_number 0 t (length page) place) t page place
  unfolding text_number printed pick
  text_long h k = rw (← same, ← size, h, lt-leb n 20 (ltb-true 20 n k))

  pub text_printed : {q : List ℕ} {r : ℕ} → leb (place + n) (length page) ≡ true → ltb 20 n ≡ false → Wrote page place f r q →
      texted_of (Ok r) place q ≡ printed (text_number 0 t (length page) place) t page place
  unfolding text_number printed pick
  text_printed h k o = rw (← same, o.next, o.page, ← size, h, le-leb n 20 (ltb-false 20 n k))

-- the text call

pub refused_call : (c : Config) (w : ℕ) (page : List ℕ) (place : ℕ) (x : Refusal) → reading_of (Err x) ≡ read_of c w →
    texted_of (Err (Unread x)) place page ≡ text_call c w page place
unfolding reading_of refusal_number text_call text_number printed pick
refused_call c w page place Unlawful e = rw (← e)
refused_call c w page place NoRow e = rw (← e)
refused_call c w page place Unavailable e = rw (← e)
refused_call c w page place OutOfRange e = rw (← e)

pub decoded_call : (c : Config) (w : ℕ) (page : List ℕ) (place : ℕ) (i : Instruction) (a : Text) → reading_of (Ok i) ≡ read_of c w →
    a ≡ printed (text_number 0 (text_of c i) (length page) place) (text_of c i) page place → a ≡ text_call c w page place
unfolding reading_of text_call
decoded_call c w page place i a e h = rw (← e) h

-- what stands in a listing

pub refused_word : (c : Config) (w : ℕ) (x : Refusal) (t : List ℕ) → reading_of (Err x) ≡ read_lawful c w → t ≡ refused_text (refusal_number x) →
    t ≡ word_text c w
unfolding reading_of refusal_number word_text shown_text pick
refused_word c w Unlawful t e h = rw (← e) h
refused_word c w NoRow t e h = rw (← e) h
refused_word c w Unavailable t e h = rw (← e) h
refused_word c w OutOfRange t e h = rw (← e) h

pub decoded_word : (c : Config) (w : ℕ) (i : Instruction) (t : List ℕ) → reading_of (Ok i) ≡ read_lawful c w → t ≡ shown_text 0 (text_of c i) →
    t ≡ word_text c w
unfolding reading_of word_text
decoded_word c w i t e h = rw (← e) h

-- "?" and the number
pub question : (n : ℕ) (t : List ℕ) → n < 10 → t ≡ (63 ∷ []) ++ hex 1 n → t ≡ refused_text n
unfolding refused_text decimal spelled digit pick
question n t h e =
    let m : n % 16 ≡ n = omega arith in
    let l : ltb n 10 ≡ true = lt-ltb n 10 h in
    rw (e, m, l)

pub too_long_shown : (f t r : List ℕ) (n : ℕ) → f ≡ t → n ≡ length f → ltb 20 n ≡ true → r ≡ refused_text 23 → r ≡ shown_text 0 t
unfolding shown_text pick
too_long_shown f t r n e s h k = rw (← e, ← s, h) k

pub shown_whole : (f t : List ℕ) (n : ℕ) → f ≡ t → n ≡ length f → ltb 20 n ≡ false → f ≡ shown_text 0 t
unfolding shown_text pick
shown_whole f t n e s h = rw (← e, ← s, h)

-- and by itself

module _ (c : Config) (w : ℕ) (page : List ℕ) (place : ℕ) where
  pub unlawful_shown : test (lawful c) ≡ false → texted_of (Err (Unread Unlawful)) place page ≡ shown_call c w page place
  unfolding shown_call printed pick refusal_number
  unlawful_shown h = rw h

  module _ (f : List ℕ) (n : ℕ) (here : test (lawful c) ≡ true) (same : f ≡ word_text c w) (size : n ≡ length f) where
    pub no_room_shown : leb (place + n) (length page) ≡ false → texted_of (Err NoRoom) place page ≡ shown_call c w page place
    unfolding shown_call printed pick
    no_room_shown h = rw (here, ← same, ← size, h)

    pub room_shown : {q : List ℕ} {r : ℕ} → leb (place + n) (length page) ≡ true → Wrote page place f r q → texted_of (Ok r) place q ≡ shown_call c w page place
    unfolding shown_call printed pick
    room_shown h o = rw (here, ← same, o.next, o.page, ← size, h)
