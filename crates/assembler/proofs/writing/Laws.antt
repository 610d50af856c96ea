-- A line's word: what the code finds is what syntax's `given_by` gives.
-- Assumes nothing.
use Prim.Native.Nat.{ℕ, zero, suc, ◌+◌, ◌-◌, ◌<◌, ◌≤◌}
use mathlib.Core.Bool.{Bool, true, false, not, ◌&&◌}
use mathlib.Core.Path.{◌≡◌, refl, ap, sym, subst, ◌∙◌}
use mathlib.Core.List.{List, [], ◌∷◌}
use native.Mathlib.Nat.{le_of_suc-le-suc, not-suc-le-zero}
use native.Mathlib.Omega.{arith}
use borrow.Author.Tests.{ne_eqb, ltb-false}
use lib.Dec.{T, eqb, ltb, leb, T_not}
use lib.ListN.{length, get_or, take, drop, length-drop, drop_of_length-le}
use lib.Seq.{slice, take_all, length-take-le}
use Rattle.std.specs.Option.{unwrap_or, ok_or}
use Rattle.std.specs.Result.{IsErrAnd}
use Rattle.std.specs.Prelude.{Option, Some, None, is_some, Result, Ok, Err}
use Rattle.laws.specs.Choice.{pick, is_false, true_is}
use Rattle.laws.specs.Test.{test, Holds, holds, and_left, and_right}
use Rattle.laws.specs.First.{first_failing}
use Rattle.words.specs.declared.Config.{Config}
use Rattle.words.specs.declared.Instruction.{Instruction}
use Rattle.words.specs.declared.Refusal.{Refusal}
use Rattle.words.specs.Configs.{lawful}
use Rattle.words.specs.Parts.{Part, unused, flag, byte, coprocessor, register, unit, mask, immediate, read_address, write_address, target, count, bank_address, short, available}
use Rattle.words.specs.Rows.{row_at, row_count}
use Rattle.words.specs.Answers.{writing_of}
use Rattle.words.specs.Words.{Written, fits, refusals567, written, word_of, write_lawful}
use Rattle.words.proofs.Statics.{lawful_here}
use Rattle.words.proofs.Keys.{most_of}
use Rattle.words.proofs.RoundTrip.{bounds, range_most}
use Rattle.syntax.specs.Lines.{letters_of, beyond, is_label}
use Rattle.syntax.specs.Labels.{Label, Found, at, nowhere, address_of, name_length, operands_of, target_of, with_address, set_target, labelwise, given_by}
use Rattle.syntax.specs.Reading.{Line, found, unread, read_line}
use Rattle.syntax.specs.Assembly.{word_given}
use Rattle.syntax.proofs.Sources.{ok_byte, clean, plain_read, no_target}
use Rattle.assembler.specs.declared.errors.LineError.{LineError}
use Rattle.assembler.specs.declared.errors.LineError.TheVariants.{NotInForm, UnknownLabel, Refused}
use Rattle.assembler.specs.declared.keys.Key.{Key}
use Rattle.assembler.specs.declared.labels.Labels.{Labels}
use Rattle.assembler.specs.Bytes.{is_beyond}
use Rattle.assembler.specs.Chains.{spell, lookup, capped, place_of, aim}
use Rattle.assembler.specs.Entries.{keys_of, places_of}
use Rattle.assembler.specs.Keys.{label_key, key_number}
use Rattle.assembler.specs.Packed.{line_of}
use Rattle.assembler.specs.Tables.{Tabled, address_of as address_in}
use Rattle.assembler.specs.Writing.{outcome_of, Worded}
use Rattle.assembler.specs.Zeros.{zeroed}
use Rattle.assembler.proofs.bytes.Laws.{part_line}
use Rattle.assembler.proofs.labels.Laws.{letters_small, keyed_address}
use Rattle.assembler.proofs.openings.Laws.{letters_inside}
use Rattle.assembler.proofs.zeros.Laws.{length_zeroed, with_zeros}
use Rattle.assembler.proofs.Heads.{read_long}
use Rattle.assembler.proofs.Packed.{line_at}

abbrev refusal_of : ℕ → Written
refusal_of n = record { number = n; word = 0 }

-- an error that is handed on

pub err_is : {A E : Type 0} (r : Result A E) (e : E) → IsErrAnd r (λ x. x ≡ e) → r ≡ Err e
err_is (Ok n) e h = absurd h
err_is (Err x) e h = ap Err h

pub missing : {A E : Type 0} (k : Option A) (x e : E) → Err x ≡ ok_or k e → (k ≡ None) × (x ≡ e)
missing {A = A} {E = E} None x e q = (refl, ap error_of q)
  where
    error_of : Result A E → E
    error_of (Ok n) = e
    error_of (Err x) = x
missing {A = A} {E = E} (Some y) x e q = absurd (true_is false (sym (ap is_err q)))
  where
    is_err : Result A E → Bool
    is_err (Ok n) = false
    is_err (Err x) = true

pub handed_on : (c : Config) (t : Labels) (l : List ℕ) (r : Result ℕ LineError) (x e : LineError) → IsErrAnd r (λ y. y ≡ x) → x ≡ e → Worded c t l (Err e) → Worded c t l r
handed_on c t l r x e h q f labels k = ap outcome_of (err_is r x h ∙ ap Err q) ∙ f labels k

-- writing

pub wrote : (r : Result ℕ Refusal) (w : ℕ) (x : Written) → r ≡ Ok w → writing_of r ≡ x → outcome_of (Ok w) ≡ x
unfolding writing_of
wrote r w x e f = rw e at f

pub refused : (r : Result ℕ Refusal) (y : Refusal) (s : Result ℕ LineError) (x : Written) → r ≡ Err y → IsErrAnd s (λ z. z ≡ Refused y) → writing_of r ≡ x → outcome_of s ≡ x
unfolding writing_of
refused r y s x e h f = ap outcome_of (err_is s (Refused y) h) ∙ (rw e at f)

-- letters stand in their line
pub letters_fit : (l : List ℕ) (from : ℕ) (s : List ℕ) → from ≤ length l → s ≡ letters_of (take (length l - from) (drop from l)) → from + length s ≤ length l
letters_fit l from s h e =
    let a : length s ≡ length (letters_of (take (length l - from) (drop from l))) = ap length e in
    let b = letters_inside (take (length l - from) (drop from l)) in
    let d : length (take (length l - from) (drop from l)) ≡ length l - from = length-take-le (length l - from) (drop from l) (rw length-drop (omega arith)) in
    omega (arith, a, b, d)

-- a target that is out of range, wherever it is

most_small : (p : Part) → most_of p ≤ 0x800000
unfolding most_of
most_small unused = omega arith
most_small flag = omega arith
most_small byte = omega arith
most_small coprocessor = omega arith
most_small register = omega arith
most_small unit = omega arith
most_small mask = omega arith
most_small immediate = omega arith
most_small read_address = omega arith
most_small write_address = omega arith
most_small target = omega arith
most_small count = omega arith
most_small bank_address = omega arith
most_small short = omega arith

far_fails : (c : Config) (i : Instruction) (a : ℕ) → Holds (lawful c) → 0x800000 ≤ a → test (fits c (row_at i.row) (set_target i a)) ≡ false
unfolding fits
far_fails c i a h k =
    is_false (test (fits c (row_at i.row) (set_target i a)))
    (λ t.
    let f = holds (fits c (row_at i.row) (set_target i a)) t in
    let r = range_most c (row_at i.row).value a (bounds c h) f.1.1.1.1 in
    let m = most_small (row_at i.row).value in
    omega arith)

refused_same : (n x y : ℕ) → (n ≡ 0 → ⊥) → written n x ≡ written n y
unfolding written pick
refused_same n x y h = rw (ne_eqb n 0 h)

not_zero : (a b : Bool) → pick {A = ℕ} a (pick b 7 6) 5 ≡ 0 → ⊥
unfolding pick
not_zero true true e = omega arith
not_zero true false e = omega arith
not_zero false b e = omega arith

far_number : (c : Config) (i : Instruction) (a : ℕ) → Holds (lawful c) → 0x800000 ≤ a →
    first_failing (refusals567 c (row_at i.row) (set_target i a)) ≡ pick (ltb i.row row_count) (pick (test (available c (row_at i.row).option)) 7 6) 5
unfolding refusals567 pick
far_number c i a h k = rw (far_fails c i a h k)

far_word : (c : Config) (i : Instruction) (a b : ℕ) → Holds (lawful c) → 0x800000 ≤ a → 0x800000 ≤ b →
    write_lawful c (set_target i a) ≡ write_lawful c (set_target i b)
unfolding write_lawful
far_word c i a b h j k =
    rw (far_number c i a h j, far_number c i b h k)
    (refused_same _ (word_of c (set_target i a)) (word_of c (set_target i b)) (not_zero (ltb i.row row_count) (test (available c (row_at i.row).option))))

capped_word : (c : Config) (i : Instruction) (a : ℕ) → Holds (lawful c) → write_lawful c (set_target i (capped a)) ≡ write_lawful c (set_target i a)
unfolding capped pick
capped_word c i a h = go (ltb a 0x800000) refl
  where
    go : (b : Bool) → ltb a 0x800000 ≡ b → write_lawful c (set_target i (pick b a 0x800000)) ≡ write_lawful c (set_target i a)
    go true e = refl
    go false e = far_word c i 0x800000 a h (omega arith) (ltb-false a 0x800000 e)

-- the two cases of a label

aimed_at : (c : Config) (i : Instruction) (x : Found) (a : ℕ) → Holds (lawful c) → Some a ≡ aim x → write_lawful c (set_target i a) ≡ word_given c (labelwise (found i) x)
aimed_at c i nowhere a h e = absurd (true_is false (sym (ap is_some e)))
aimed_at c i (at b) a h e = ap (λ (d : ℕ). write_lawful c (set_target i d)) (ap (λ (o : Option ℕ). unwrap_or o 0) e) ∙ capped_word c i b h

aimed_nowhere : (c : Config) (i : Instruction) (x : Found) → None ≡ aim x → refusal_of 25 ≡ word_given c (labelwise (found i) x)
aimed_nowhere c i nowhere e = refl
aimed_nowhere c i (at b) e = absurd (true_is false (ap is_some e))

-- the target of a line

no_letters : is_label (letters_of []) ≡ false
unfolding letters_of is_label beyond
no_letters = refl

target_none : (l : List ℕ) → length l ≤ name_length l → target_of l ≡ []
unfolding target_of operands_of pick
target_none l h =
    let e : drop (suc (name_length l)) l ≡ [] = drop_of_length-le l {i = suc (name_length l)} (omega arith) in
    rw (e, no_letters)

target_unlabelled : (l : List ℕ) → is_label (letters_of (operands_of l)) ≡ false → target_of l ≡ []
unfolding target_of pick
target_unlabelled l e = rw e

target_labelled : (l : List ℕ) → is_label (letters_of (operands_of l)) ≡ true → target_of l ≡ letters_of (operands_of l)
unfolding target_of pick
target_labelled l e = rw e

label_filled : (s : List ℕ) → is_label s ≡ true → eqb (length s) 0 ≡ false
unfolding is_label beyond
label_filled [] e = absurd (true_is false e)
label_filled (b ∷ s) e = ne_eqb (suc (length s)) 0 (λ z. omega arith)

-- a line that is not in the form, and has no label for its target
plain_bad : (c : Config) (labels : List Label) (l : List ℕ) → read_line l ≡ unread → target_of l ≡ [] → word_given c (given_by labels l) ≡ refusal_of 26
unfolding given_by pick
plain_bad c labels l u e = rw (e, u)

-- a line with zeros for its label

pub zeroed_long : (l : List ℕ) (from m : ℕ) → from + m ≤ length l → 16 < length l - m + 6 → unread ≡ read_line (zeroed l from m)
zeroed_long l from m h k = sym (read_long (zeroed l from m) (omega (arith, length_zeroed l from m h)))

-- the operands, as code takes them out of the line
operands_part : (l : List ℕ) (name from : ℕ) → name ≡ name_length l → from ≡ name + 1 → name < length l → take (length l - from) (drop from l) ≡ operands_of l
unfolding operands_of
operands_part l name from e f h =
    let q : from ≡ suc (name_length l) = omega (arith, e, f) in
    take_all (length l - from) (drop from l) (rw length-drop (omega arith)) ∙ ap (λ (n : ℕ). drop n l) q

module _ (c : Config) (t : Labels) (l : List ℕ) (name : ℕ) (lawfully : test (lawful c) ≡ true) (unread-it : read_line l ≡ unread) (named : name ≡ name_length l) where
  pub no_space : length l ≤ name → Worded c t l (Err NotInForm)
  no_space h labels _ = sym (plain_bad c labels l unread-it (target_none l (omega (arith, named))))

  module _ (from : ℕ) (s : List ℕ) (start : from ≡ name + 1) (inside : name < length l) (letters : s ≡ letters_of (take (length l - from) (drop from l))) where
    those : s ≡ letters_of (operands_of l)
    those = letters ∙ ap letters_of (operands_part l name from named start inside)

    pub no_label : (k : Option Key) → key_number k ≡ label_key s → k ≡ None → Worded c t l (Err NotInForm)
    unfolding label_key pick
    no_label k e z labels _ = sym (plain_bad c labels l unread-it (target_unlabelled l (go (is_label (letters_of (operands_of l))) refl)))
      where
        none : None ≡ label_key (letters_of (operands_of l))
        none = sym (ap key_number z) ∙ e ∙ ap label_key those

        go : (b : Bool) → is_label (letters_of (operands_of l)) ≡ b → is_label (letters_of (operands_of l)) ≡ false
        go true u = absurd (true_is false (ap is_some none ∙ rw u))
        go false u = u

    module _ (k : Option Key) (x : Key) (key : key_number k ≡ label_key s) (there : k ≡ Some x) where
      some : Some x.number ≡ label_key (letters_of (operands_of l))
      some = sym (ap key_number there) ∙ key ∙ ap label_key those

      labelled : is_label (letters_of (operands_of l)) ≡ true
      unfolding label_key pick
      labelled = go (is_label (letters_of (operands_of l))) refl
        where
          go : (b : Bool) → is_label (letters_of (operands_of l)) ≡ b → is_label (letters_of (operands_of l)) ≡ true
          go true u = u
          go false u = absurd (true_is false (sym (ap is_some some ∙ rw u)))

      spelled : x.number ≡ spell 0 (letters_of (operands_of l))
      unfolding label_key pick
      spelled =
          let e : label_key (letters_of (operands_of l)) ≡ Some (spell 0 (letters_of (operands_of l))) = rw labelled in
          ap (λ (o : Option ℕ). unwrap_or o 0) (some ∙ e)

      by_label : (labels : List Label) → given_by labels l ≡ labelwise (read_line (with_address 0 l)) (address_of labels (letters_of (operands_of l)))
      unfolding given_by pick
      by_label labels = rw (target_labelled l labelled, label_filled (letters_of (operands_of l)) labelled)

      zeroed_line : zeroed l from (length s) ≡ with_address 0 l
      zeroed_line =
          let q : from ≡ suc (name_length l) = omega (arith, start, named) in
          let m : length s ≡ length (target_of l) = ap length (those ∙ sym (target_labelled l labelled)) in
          ap (λ (y : ℕ). zeroed l y (length s)) q ∙ ap (λ (y : ℕ). zeroed l (suc (name_length l)) y) m ∙ sym (with_zeros l)

      by_zeroed : (p : Option Instruction) → line_of p ≡ read_line (zeroed l from (length s)) → (labels : List Label) →
          given_by labels l ≡ labelwise (line_of p) (address_of labels (letters_of (operands_of l)))
      by_zeroed p u labels =
          by_label labels ∙ ap (λ (z : Line). labelwise z (address_of labels (letters_of (operands_of l)))) (ap read_line (sym zeroed_line) ∙ sym u)

      pub label_unread : (p : Option Instruction) → line_of p ≡ read_line (zeroed l from (length s)) → p ≡ None → Worded c t l (Err NotInForm)
      label_unread p u z labels _ = sym (ap (word_given c) (by_zeroed p u labels ∙ ap (λ (p : Option Instruction). labelwise (line_of p) (address_of labels (letters_of (operands_of l)))) z))

      module _ (p : Option Instruction) (i : Instruction) (reads : line_of p ≡ read_line (zeroed l from (length s))) (found-it : p ≡ Some i) where
        aims : (labels : List Label) → Tabled t labels → address_in t x.number ≡ aim (address_of labels (letters_of (operands_of l)))
        aims labels h =
            ap (address_in t) spelled ∙
            ap (λ (n : ℕ). place_of (places_of t.entries) (lookup (keys_of t.entries) n (spell 0 (letters_of (operands_of l))))) h.many ∙
            keyed_address (keys_of t.entries) (places_of t.entries) labels (letters_of (operands_of l)) h.keyed (letters_small (operands_of l))

        gives : (labels : List Label) → given_by labels l ≡ labelwise (found i) (address_of labels (letters_of (operands_of l)))
        gives labels = by_zeroed p reads labels ∙ ap (λ (p : Option Instruction). labelwise (line_of p) (address_of labels (letters_of (operands_of l)))) found-it

        pub label_unknown : (a : Option ℕ) → a ≡ address_in t x.number → a ≡ None → Worded c t l (Err UnknownLabel)
        label_unknown a e z labels h = aimed_nowhere c i _ (sym z ∙ e ∙ aims labels h) ∙ sym (ap (word_given c) (gives labels))

        pub label_found : (a : Option ℕ) (y : ℕ) (j : Instruction) (r : Result ℕ LineError) → a ≡ address_in t x.number → a ≡ Some y → j ≡ set_target i y →
            outcome_of r ≡ write_lawful c j → Worded c t l r
        label_found a y j r e z f g labels h =
            g ∙ ap (write_lawful c) f ∙ aimed_at c i _ y (lawful_here c lawfully) (sym z ∙ e ∙ aims labels h) ∙ sym (ap (word_given c) (gives labels))

-- a line with a letter beyond f is in no form

clean_at : (l : List ℕ) (j : ℕ) → T (clean l) → j < length l → T (ok_byte (get_or l j 0))
clean_at [] j c h = absurd (not-suc-le-zero h)
clean_at (b ∷ l) zero c h = and_left (ok_byte b) (clean l) c
clean_at (b ∷ l) (suc j) c h = clean_at l j (and_right (ok_byte b) (clean l) c) (le_of_suc-le-suc h)

not_beyond : (b : ℕ) → T (ok_byte b) → is_beyond b ≡ true → ⊥
unfolding is_beyond
not_beyond b o e = T_not (leb 103 b && leb b 122) (and_right (not (eqb b 10)) (not (leb 103 b && leb b 122)) o) (true_is (leb 103 b && leb b 122) e)

far_unread : (l : List ℕ) (j : ℕ) → j < length l → is_beyond (get_or l j 0) ≡ true → read_line l ≡ unread
far_unread l j h e = go (read_line l) refl
  where
    go : (y : Line) → read_line l ≡ y → read_line l ≡ unread
    go (found i) q = absurd (not_beyond (get_or l j 0) (clean_at l j (plain_read l i q).is_clean h) e)
    go unread q = q

pub reads_far : (t : List ℕ) (s n j : ℕ) (b : Bool) → s + n ≤ length t → j < n → b ≡ is_beyond (get_or t (s + j) 0) → b ≡ true → unread ≡ read_line (slice s (s + n) t)
reads_far t s n j b h k e f =
    let i = line_at t s n h in
    sym (far_unread (slice s (s + n) t) j (omega (arith, i.long)) (ap is_beyond (i.each j k) ∙ sym e ∙ f))

-- where the text from s up to e is read as a line
line_read : (text : List ℕ) (s e : ℕ) (y : Line) → s ≤ e → y ≡ read_line (slice s (s + (e - s)) text) → y ≡ read_line (slice s e text)
line_read text s e y h f =
    let q : s + (e - s) ≡ e = omega arith in
    f ∙ ap (λ (n : ℕ). read_line (slice s n text)) q

module _ (c : Config) (t : Labels) (text : List ℕ) (s e : ℕ) (h : s ≤ e) (k : e ≤ length text) (p : Option Instruction) (reads : line_of p ≡ read_line (slice s (s + (e - s)) text)) where
  -- a line that is in the form as it stands
  pub plain_found : (i : Instruction) (r : Result ℕ LineError) → p ≡ Some i → outcome_of r ≡ write_lawful c i → Worded c t (slice s e text) r
  unfolding given_by pick
  plain_found i r z f labels _ =
      let l = slice s e text in
      let q : read_line l ≡ found i = sym (line_read text s e _ h reads) ∙ ap line_of z in
      rw (no_target l (plain_read l i q).is_clean, q) f

  -- one that is not
  pub plain_unread : p ≡ None → read_line (take (e - s) (drop s text)) ≡ unread
  plain_unread z = ap read_line (part_line text s e h k) ∙ sym (line_read text s e _ h reads) ∙ ap line_of z

  pub plain_part : (r : Result ℕ LineError) → Worded c t (take (e - s) (drop s text)) r → Worded c t (slice s e text) r
  plain_part r f = subst (λ (l : List ℕ). Worded c t l r) (part_line text s e h k) f
