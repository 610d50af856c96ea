-- A pass over the lines: what is left of them, after what is read, is the whole.
-- Assumes nothing.
use Prim.Native.Nat.{ℕ, suc, ◌+◌, ◌-◌, ◌<◌, ◌≤◌}
use mathlib.Core.Bool.{Bool, true, false, not}
use mathlib.Core.Path.{◌≡◌, refl, ap, sym, ◌∙◌}
use mathlib.Core.List.{List, [], ◌∷◌}
use native.Mathlib.Nat.{add-zero}
use native.Mathlib.Omega.{arith}
use borrow.Author.Tests.{eqb-true, eq-eqb, ne_eqb, not-true, not-false}
use lib.Dec.{eqb}
use lib.ListN.{length, take, drop, set}
use lib.Seq.{slice, sets, drop-drop}
use Rattle.std.specs.Prelude.{Option, Some, None, Result, Ok, Err}
use Rattle.std.specs.Result.{IsErrAnd, MatchResult}
use Rattle.laws.specs.Choice.{pick, true_is}
use Rattle.words.specs.declared.Config.{Config}
use Rattle.words.specs.declared.Refusal.TheVariants.{Unlawful, NoRow, Unavailable, OutOfRange}
use Rattle.words.specs.Answers.{refusal_number}
use Rattle.words.specs.Words.{Written}
use Rattle.syntax.specs.Lines.{lines_of, body_of, counts}
use Rattle.syntax.specs.Labels.{Label, gathered, given_by}
use Rattle.syntax.specs.Assembly.{word_given, word_at, Assembly, refused, before, words_from}
use Rattle.assembler.specs.declared.errors.AssembleError.{AssembleError}
use Rattle.assembler.specs.declared.errors.AssembleError.TheVariants.{BadLine}
use Rattle.assembler.specs.declared.errors.LineError.{LineError}
use Rattle.assembler.specs.declared.errors.LineError.TheVariants.{NotInForm, UnknownLabel, Refused}
use Rattle.assembler.specs.declared.labels.Labels.{Labels}
use Rattle.assembler.specs.Bytes.{lines_from, LineEnd}
use Rattle.assembler.specs.Errors.{line_error_number}
use Rattle.assembler.specs.Passing.{counted_of, written_of, Gives, words_of, Passes}
use Rattle.assembler.specs.Tables.{Tabled}
use Rattle.assembler.specs.Writing.{outcome_of, Worded}
use Rattle.assembler.proofs.bytes.Laws.{lines_start, lines_past, part_line}
use Rattle.assembler.proofs.writing.Laws.{err_is}

-- one line

-- a part of a line is a part of the text
body_part : (text : List ℕ) (s e from : ℕ) → s ≤ e → e ≤ length text → slice (s + from) e text ≡ drop from (slice s e text)
body_part text s e from h k = sym (drop-drop from s (take e text))

module _ (c : Config) (t : Labels) (text : List ℕ) (s e : ℕ) (h : s ≤ e) (k : e ≤ length text) where
  pub gives_none : (b : Bool) → b ≡ counts (take (e - s) (drop s text)) → not b ≡ true → Gives c t (slice s e text) (Ok None)
  gives_none b u v =
      record {
        counts_is = sym (sym (ap counts (part_line text s e h k)) ∙ sym u ∙ not-true b v);
        word_is = λ x. absurd (true_is false x);
      }

  pub gives_word : (b : Bool) (from : ℕ) (w : Result ℕ LineError) (r : Result (Option ℕ) LineError) → b ≡ counts (take (e - s) (drop s text)) → not b ≡ false →
      drop from (take (e - s) (drop s text)) ≡ body_of (take (e - s) (drop s text)) → Worded c t (slice (s + from) e text) w →
      counted_of r ≡ true → written_of r ≡ outcome_of w → Gives c t (slice s e text) r
  unfolding word_at
  gives_word b from w r u v d g x y =
      let p = part_line text s e h k in
      let q : counts (slice s e text) ≡ true = sym (ap counts p) ∙ sym u ∙ not-false b v in
      let body : slice (s + from) e text ≡ body_of (slice s e text) = body_part text s e from h k ∙ ap (drop from) (sym p) ∙ d ∙ ap body_of p in
      record {
        counts_is = x ∙ sym q;
        word_is = λ _ labels z. y ∙ g labels z ∙ ap (λ (l : List ℕ). word_given c (given_by labels l)) body;
      }

  pub gives_error : (b : Bool) (from : ℕ) (w : Result ℕ LineError) (x : LineError) (r : Result (Option ℕ) LineError) → b ≡ counts (take (e - s) (drop s text)) →
      not b ≡ false → drop from (take (e - s) (drop s text)) ≡ body_of (take (e - s) (drop s text)) → Worded c t (slice (s + from) e text) w →
      w ≡ Err x → IsErrAnd r (λ y. y ≡ x) → Gives c t (slice s e text) r
  gives_error b from w x r u v d g z i =
      let q = err_is r x i in
      gives_word b from w r u v d g (ap counted_of q) (ap written_of q ∙ ap outcome_of (sym z))

-- a line's word, or its error with the line

abbrev At_line : ℕ → Result (Option ℕ) LineError → Result (Option ℕ) AssembleError → Type 0
At_line line r s = MatchResult r (λ x. s ≡ Ok x) (λ e. s ≡ Err (BadLine line e))

abbrev word_in : Result (Option ℕ) AssembleError → Option ℕ
word_in (Ok x) = x
word_in (Err e) = None

abbrev is_bad : Result (Option ℕ) AssembleError → Bool
is_bad (Ok x) = false
is_bad (Err e) = true

abbrev error_in : AssembleError → Result (Option ℕ) AssembleError → AssembleError
error_in d (Ok x) = d
error_in d (Err e) = e

pub word_there : (line : ℕ) (r : Result (Option ℕ) LineError) (s : Result (Option ℕ) AssembleError) (x : Option ℕ) → At_line line r s → s ≡ Ok x → r ≡ Ok x
word_there line (Ok y) s x h q = ap Ok (ap word_in (sym h ∙ q))
word_there line (Err e) s x h q = absurd (true_is false (sym (ap is_bad (sym h ∙ q))))

pub error_there : (line : ℕ) (r : Result (Option ℕ) LineError) (s : Result (Option ℕ) AssembleError) (y : AssembleError) → At_line line r s → s ≡ Err y →
    (e : LineError) × (r ≡ Err e) × (y ≡ BadLine line e)
error_there line (Ok x) s y h q = absurd (true_is false (ap is_bad (sym h ∙ q)))
error_there line (Err e) s y h q = (e, refl, ap (error_in y) (sym q ∙ h))

-- what holds before the line at s, the pass's invariant

abbrev labels_of : List ℕ → List Label
labels_of text = gathered [] 0 (lines_of text)

abbrev rest_from : Config → List ℕ → ℕ → ℕ → Assembly
rest_from c text s line = words_from c (labels_of text) line (lines_from text s)

pub record Passing (c : Config) (text words₀ : List ℕ) (s line count : ℕ) (words : List ℕ) : Type 0 where
  pub near : s ≤ suc (length text)
  pub numbered : line ≤ suc s
  pub few : count ≤ s
  pub number_left : (words_of c text).number ≡ (rest_from c text s line).number
  pub line_left : (words_of c text).line ≡ (rest_from c text s line).line
  pub count_left : (words_of c text).number ≡ 0 → count + length (rest_from c text s line).words ≡ length (words_of c text).words
  pub words_left : (words_of c text).number ≡ 0 → sets words count (rest_from c text s line).words ≡ sets words₀ 0 (words_of c text).words

pub passing_first : (c : Config) (text words : List ℕ) → Passing c text words 0 1 0 words
passing_first c text words =
    let e = lines_start text in
    record {
      near = omega arith;
      numbered = omega arith;
      few = omega arith;
      number_left = rw e;
      line_left = rw e;
      count_left = λ _. rw e (omega arith);
      words_left = λ _. rw e;
    }

-- refused words are none

pub words_none : (c : Config) (labels : List Label) (ls : List (List ℕ)) (k : ℕ) → ((words_from c labels k ls).number ≡ 0 → ⊥) → length (words_from c labels k ls).words ≡ 0
unfolding words_from pick
words_none c labels [] k h = absurd (h refl)
words_none c labels (l ∷ ls) k h = go (counts l) (eqb (word_at c labels l).number 0) (eqb (words_from c labels (suc k) ls).number 0) refl refl (words_none c labels ls (suc k)) h
  where
    rest : Assembly
    rest = words_from c labels (suc k) ls

    w : Written
    w = word_at c labels l

    go : (x y z : Bool) → eqb w.number 0 ≡ y → eqb rest.number 0 ≡ z → ((rest.number ≡ 0 → ⊥) → length rest.words ≡ 0) →
        ((pick x (pick y (before w.word rest) (refused w.number k)) rest).number ≡ 0 → ⊥) →
        length (pick x (pick y (before w.word rest) (refused w.number k)) rest).words ≡ 0
    go true true true e f ih g = absurd (g (eqb-true rest.number 0 f))
    go true true false e f ih g = rw f
    go true false z e f ih g = refl
    go false y z e f ih g = ih g

-- a refusal has a number
pub line_never : (x : LineError) → line_error_number x ≡ 0 → ⊥
unfolding refusal_number
line_never NotInForm e = omega arith
line_never UnknownLabel e = omega arith
line_never (Refused Unlawful) e = omega arith
line_never (Refused NoRow) e = omega arith
line_never (Refused Unavailable) e = omega arith
line_never (Refused OutOfRange) e = omega arith

module _ (c : Config) (text words₀ : List ℕ) (s line count : ℕ) (words : List ℕ) (g : Passing c text words₀ s line count words) (e : ℕ)
    (end : LineEnd text s e) (t : Labels) (table : Tabled t (labels_of text)) (r : Result (Option ℕ) LineError) (gives : Gives c t (slice s e text) r) where
  l : List ℕ
  l = slice s e text

  next : Assembly
  next = words_from c (labels_of text) (suc line) (lines_from text (suc e))

  w : Written
  w = word_at c (labels_of text) l

  here : rest_from c text s line ≡ pick (counts l) (pick (eqb w.number 0) (before w.word next) (refused w.number line)) next
  unfolding l next w words_from
  here = rw end.parted

  word_here : counted_of r ≡ true → written_of r ≡ w
  unfolding l w
  word_here x = gives.word_is x (labels_of text) table

  -- a bad line
  pub bad_line : (x : LineError) (y : AssembleError) (a : Result ℕ AssembleError) (after : List ℕ) → r ≡ Err x → y ≡ BadLine line x → IsErrAnd a (λ z. z ≡ y) → Passes c text words₀ a after
  unfolding l next w pick
  bad_line x y a after u i v =
      let q : outcome_of (Err x) ≡ w = sym (ap written_of u) ∙ word_here (ap counted_of u) in
      let m : line_error_number x ≡ w.number = ap (λ (y : Written). y.number) q in
      let cl : counts l ≡ true = sym gives.counts_is ∙ ap counted_of u in
      let nz : eqb w.number 0 ≡ false = ne_eqb w.number 0 (λ k. line_never x (m ∙ k)) in
      let this : rest_from c text s line ≡ refused w.number line = here ∙ rw (cl, nz) in
      let d : a ≡ Err (BadLine line x) = err_is a y v ∙ ap Err i in
      let number : line_error_number x ≡ (words_of c text).number = m ∙ sym (g.number_left ∙ ap (λ (k : Assembly). k.number) this) in
      let bad : (words_of c text).number ≡ 0 → ⊥ = λ k. line_never x (number ∙ k) in
      rw d (record {
        number = number;
        line = sym (g.line_left ∙ ap (λ (k : Assembly). k.line) this);
        count = sym (words_none c (labels_of text) (lines_of text) 1 bad);
        written = λ k. absurd (line_never x k);
      })

  -- a good one

  rest_next : rest_from c text (e + 1) (line + 1) ≡ next
  unfolding next
  rest_next =
      let p : e + 1 ≡ suc e = omega arith in
      let q : line + 1 ≡ suc line = omega arith in
      ap (λ (x : ℕ). words_from c (labels_of text) (line + 1) (lines_from text x)) p ∙ ap (λ (x : ℕ). words_from c (labels_of text) x (lines_from text (suc e))) q

  module _ (count' : ℕ) (words' : List ℕ) (left : Assembly) (now-left : rest_from c text s line ≡ left) (same_number : left.number ≡ next.number)
      (same_line : left.line ≡ next.line) (low : count' ≤ suc count)
      (counted-on : next.number ≡ 0 → count' + length next.words ≡ count + length left.words)
      (written_on : next.number ≡ 0 → sets words' count' next.words ≡ sets words count left.words) where
    passed_number : (words_of c text).number ≡ 0 → next.number ≡ 0
    passed_number z = sym (g.number_left ∙ ap (λ (k : Assembly). k.number) now-left ∙ same_number) ∙ z

    passing_on : Passing c text words₀ (e + 1) (line + 1) count' words'
    passing_on =
        let f = end.forward in
        let i = end.inside in
        let nl = g.numbered in
        let fl = g.few in
        record {
          near = omega arith;
          numbered = omega arith;
          few = omega arith;
          number_left = g.number_left ∙ ap (λ (k : Assembly). k.number) now-left ∙ same_number ∙ ap (λ (k : Assembly). k.number) (sym rest_next);
          line_left = g.line_left ∙ ap (λ (k : Assembly). k.line) now-left ∙ same_line ∙ ap (λ (k : Assembly). k.line) (sym rest_next);
          count_left = λ z.
              ap (λ (k : Assembly). count' + length k.words) rest_next ∙ counted-on (passed_number z) ∙
              ap (λ (k : Assembly). count + length k.words) (sym now-left) ∙ g.count_left z;
          words_left = λ z.
              ap (λ (x : Assembly). sets words' count' x.words) rest_next ∙ written_on (passed_number z) ∙
              ap (λ (x : Assembly). sets words count x.words) (sym now-left) ∙ g.words_left z;
        }

  pub none_more : r ≡ Ok None → Passing c text words₀ (e + 1) (line + 1) count words
  unfolding l pick
  none_more u =
      let this : rest_from c text s line ≡ next = here ∙ rw (sym gives.counts_is ∙ ap counted_of u) in
      passing_on count words next this refl refl (omega arith) (λ _. refl) (λ _. refl)

  pub one_more_word : (x : ℕ) (words' : List ℕ) → r ≡ Ok (Some x) → words' ≡ set words count x → Passing c text words₀ (e + 1) (line + 1) (count + 1) words'
  unfolding l w pick
  one_more_word x words' u v =
      let q : outcome_of (Ok x) ≡ w = sym (ap written_of u) ∙ word_here (ap counted_of u) in
      let m : 0 ≡ w.number = ap (λ (y : Written). y.number) q in
      let k : x ≡ w.word = ap (λ (y : Written). y.word) q in
      let ok : eqb w.number 0 ≡ true = eq-eqb w.number 0 (sym m) in
      let this : rest_from c text s line ≡ before w.word next = here ∙ rw (sym gives.counts_is ∙ ap counted_of u, ok) in
      let one : count + 1 ≡ suc count = omega arith in
      passing_on (count + 1) words' (before w.word next) this refl refl (omega arith)
      (λ y. rw y (omega arith))
      (λ y.
      ap (λ (k : List ℕ). sets k (count + 1) next.words) (v ∙ ap (set words count) k) ∙ ap (λ (k : ℕ). sets (set words count w.word) k next.words) one ∙
      ap (λ (k : ℕ). sets words count (pick (eqb k 0) (w.word ∷ next.words) [])) (sym y))

-- the end
pub all_passed : (c : Config) (text words₀ : List ℕ) (s line count : ℕ) (words : List ℕ) → Passing c text words₀ s line count words →
    length text < s → Passes c text words₀ (Ok count) words
unfolding words_from
all_passed c text words₀ s line count words g h =
    let e : lines_from text s ≡ [] = lines_past text s h in
    let number : (words_of c text).number ≡ 0 = g.number_left ∙ rw e in
    record {
      number = sym number;
      line = sym (g.line_left ∙ rw e);
      count = sym (add-zero count) ∙ (rw e at (g.count_left number));
      written = λ _. rw e at (g.words_left number);
    }
