-- Labels mean addresses, over whole texts (specs/Claims.antt, LabelsResolved).
-- Assumes nothing.
use Prim.Native.Nat.{ℕ, suc, ◌<◌}
use mathlib.Core.Bool.{Bool, true, false}
use mathlib.Core.Path.{◌≡◌, refl, ap, sym, ◌∙◌}
use mathlib.Core.List.{List, [], ◌∷◌}
use native.Mathlib.Omega.{arith}
use borrow.Author.Tests.{eqb-true, eqb-false}
use lib.Dec.{T, eqb, leb, leb→le}
use lib.ListN.{length}
use Rattle.laws.specs.Choice.{pick, true_is}
use Rattle.laws.specs.Lists.{column}
use Rattle.laws.specs.Test.{Holds}
use Rattle.laws.specs.First.{Every}
use Rattle.laws.specs.Table.{every, at_every}
use Rattle.words.specs.declared.Config.{Config}
use Rattle.words.specs.declared.Instruction.{Instruction}
use Rattle.words.specs.Configs.{lawful}
use Rattle.words.specs.Rows.{rows, row_count, row_at}
use Rattle.words.specs.Words.{Written, written, write_lawful, write_of}
use Rattle.words.proofs.Keys.{most_of}
use Rattle.words.proofs.RoundTrip.{stands}
use Rattle.syntax.specs.Reading.{Line, found, unread, read_line}
use Rattle.syntax.specs.Lines.{onto, lines_of, body_of, counts}
use Rattle.syntax.specs.Labels.{Label, gathered, Found, at, nowhere, address_of, target_of, with_address, set_target, plainly, labelwise, given_by}
use Rattle.syntax.specs.Assembly.{word_given, word_at, Assembly, refused, before, words_from, how_many}
use Rattle.syntax.specs.Claims.{replaced, resolved_body, resolved_line, unlined, resolved, LabelsResolved}
use Rattle.syntax.proofs.Sources.{clean, filled, Plain, plain_read, counted, read_word, lawful_writes, parted, one_line, Clean, clean_unlabelled, line_by_line}
use Rattle.syntax.proofs.Unlabelled.{passes}
use Rattle.syntax.proofs.Labels.{labels_mean}

-- a value that can be written has six digits

all_small : T (every row_count (λ n. leb (most_of (row_at n).value) 0x800000))
unfolding rows row_at most_of
all_small = tt

six_digits : (c : Config) (i : Instruction) → Holds (lawful c) → (write_lawful c i).number ≡ 0 → i.value < 0x1000000
unfolding write_of written
six_digits c i h z =
    let s = stands c i (ap (λ (w : Written). w.number) (sym (lawful_writes c i h)) ∙ z) in
    let m = leb→le (most_of (row_at i.row).value) 0x800000 (at_every row_count (λ n. leb (most_of (row_at n).value) 0x800000) i.row all_small s.row) in
    let v = s.value in
    omega arith

-- A line whose word can be written, resolved, is a line that is read, and has that word: by cases on whether it has a label, on what was read, and on the label's
-- address

abbrev Same : Config → List ℕ → Written → Type 0
Same c m w = Plain m × (word_at c [] m ≡ w)

same_read : (c : Config) (m : List ℕ) (i : Instruction) → read_line m ≡ found i → Same c m (write_lawful c i)
same_read c m i e = (plain_read m i e, read_word c [] m i e)

module _ (c : Config) (lawfully : Holds (lawful c)) (b : List ℕ) where
  plain_same : (r : Line) → read_line b ≡ r → (word_given c (plainly r)).number ≡ 0 → Same c b (word_given c (plainly r))
  plain_same (found i) e z = same_read c b i e
  plain_same unread e z = absurd (omega arith)

  aimed_same : (r : Line) (f : Found) → eqb (length (target_of b)) 0 ≡ false → read_line (with_address 0 b) ≡ r →
      (word_given c (labelwise r f)).number ≡ 0 → Same c (replaced b f) (word_given c (labelwise r f))
  aimed_same (found i) (at a) t e z =
      same_read c (with_address a b) (set_target i a) (labels_mean b a i t (six_digits c (set_target i a) lawfully z) e)
  aimed_same (found i) nowhere t e z = absurd (omega arith)
  aimed_same unread f t e z = absurd (omega arith)

  chosen_same : (d : Bool) (f : Found) → eqb (length (target_of b)) 0 ≡ d →
      (word_given c (pick d (plainly (read_line b)) (labelwise (read_line (with_address 0 b)) f))).number ≡ 0 →
      Same c (pick d b (replaced b f)) (word_given c (pick d (plainly (read_line b)) (labelwise (read_line (with_address 0 b)) f)))
  unfolding pick
  chosen_same true f t z = plain_same (read_line b) refl z
  chosen_same false f t z = aimed_same (read_line (with_address 0 b)) f t refl z

body_same : (c : Config) (labels : List Label) (l : List ℕ) → Holds (lawful c) → (word_at c labels l).number ≡ 0 →
    Same c (resolved_body labels (body_of l)) (word_at c labels l)
unfolding resolved_body word_at given_by
body_same c labels l h z =
    let b = body_of l in
    chosen_same c h b (eqb (length (target_of b)) 0) (address_of labels (target_of b)) refl z

-- What a line adds to the answer of the later ones. Resolved, it adds the same.

abbrev step : Config → List Label → ℕ → List ℕ → Assembly → Assembly
step c labels k l rest =
    let w = word_at c labels l in
    pick (counts l) (pick (eqb w.number 0) (before w.word rest) (refused w.number k)) rest

record Kept (c : Config) (labels : List Label) (l m : List ℕ) : Type 0 where
  is_clean : T (clean m)
  count : counts m ≡ counts l
  answer : (k : ℕ) (rest : Assembly) → step c [] k m rest ≡ step c labels k l rest

empty_line : counts [] ≡ false
unfolding counts
empty_line = refl

kept : (c : Config) (labels : List Label) (l : List ℕ) → Holds (lawful c) → (T (counts l) → (word_at c labels l).number ≡ 0) →
    Kept c labels l (resolved_line labels l)
unfolding resolved_line pick
kept c labels l h w = go (counts l) refl
  where
    go : (d : Bool) → counts l ≡ d → Kept c labels l (pick d (resolved_body labels (body_of l)) [])
    go true e =
        let s = body_same c labels l h (w (true_is (counts l) e)) in
        let n = counted (resolved_body labels (body_of l)) s.0 in
        record { is_clean = s.0.is_clean; count = n ∙ sym e; answer = λ k rest. rw (n, e, s.1) }
    go false e = record { is_clean = tt; count = empty_line ∙ sym e; answer = λ k rest. rw (empty_line, e) }

-- all lines

module _ (w : Written) (k : ℕ) (rest : Assembly) where
  this_passes : (d : Bool) → eqb w.number 0 ≡ d → (pick d (before w.word rest) (refused w.number k)).number ≡ 0 →
      (w.number ≡ 0) × (rest.number ≡ 0)
  unfolding pick
  this_passes true e z = (eqb-true w.number 0 e, z)
  this_passes false e z = absurd (eqb-false w.number 0 e z)

  step_passes : (b : Bool) → (pick b (pick (eqb w.number 0) (before w.word rest) (refused w.number k)) rest).number ≡ 0 →
      (T b → w.number ≡ 0) × (rest.number ≡ 0)
  unfolding pick
  step_passes true z = let r = this_passes (eqb w.number 0) refl z in ((λ t. r.0), r.1)
  step_passes false z = ((λ t. absurd t), z)

abbrev AllKept : Config → List Label → List (List ℕ) → Type 0
AllKept c labels = Every (λ l. Kept c labels l (resolved_line labels l))

module _ (c : Config) (labels : List Label) where
  all_kept : (k : ℕ) (ls : List (List ℕ)) → Holds (lawful c) → (words_from c labels k ls).number ≡ 0 → AllKept c labels ls
  unfolding words_from
  all_kept k [] h z = tt
  all_kept k (l ∷ ls) h z =
      let s = step_passes (word_at c labels l) k (words_from c labels (suc k) ls) (counts l) z in
      (kept c labels l h s.0, all_kept (suc k) ls h s.1)

  kept_clean : (ls : List (List ℕ)) → AllKept c labels ls → Clean (column (resolved_line labels) ls)
  kept_clean [] h = tt
  kept_clean (l ∷ ls) h = (h.0.is_clean, kept_clean ls h.1)

  kept_counts : (ls : List (List ℕ)) → AllKept c labels ls → how_many counts (column (resolved_line labels) ls) ≡ how_many counts ls
  kept_counts [] h = refl
  kept_counts (l ∷ ls) h = rw (h.0.count, kept_counts ls h.1)

  kept_words : (k : ℕ) (ls : List (List ℕ)) → AllKept c labels ls → words_from c [] k (column (resolved_line labels) ls) ≡ words_from c labels k ls
  unfolding words_from
  kept_words k [] h = refl
  kept_words k (l ∷ ls) h =
      ap (step c [] k (resolved_line labels l)) (kept_words (suc k) ls h.1) ∙ h.0.answer k (words_from c labels (suc k) ls)

-- the lines of the resolved text

some_line : (text : List ℕ) → T (filled (lines_of text))
unfolding lines_of pick
some_line [] = tt
some_line (b ∷ t) = go (eqb b 10)
  where
    onto_some : (ls : List (List ℕ)) → T (filled (onto b ls))
    onto_some [] = tt
    onto_some (l ∷ ls) = tt

    go : (d : Bool) → T (filled (pick d ([] ∷ lines_of t) (onto b (lines_of t))))
    go true = tt
    go false = onto_some (lines_of t)

lines_back : (ls : List (List ℕ)) → T (filled ls) → Clean ls → lines_of (unlined ls) ≡ ls
unfolding unlined
lines_back [] s h = absurd s
lines_back (l ∷ []) s h = one_line l h.0
lines_back (l ∷ (m ∷ ls)) s h =
    parted l (unlined (m ∷ ls)) h.0 ∙ ap (λ (x : List (List ℕ)). l ∷ x) (lines_back (m ∷ ls) tt h.1)

column_some : (f : List ℕ → List ℕ) (ls : List (List ℕ)) → T (filled ls) → T (filled (column f ls))
column_some f [] s = s
column_some f (l ∷ ls) s = tt

pub labels_resolved : LabelsResolved
unfolding resolved
labels_resolved c text room z =
    let ls = lines_of text in
    let labels = gathered [] 0 ls in
    let ms = column (resolved_line labels) ls in
    let p = passes c text room z in
    let h = all_kept c labels 1 ls p.lawfully (rw p.answer at z) in
    let clean = kept_clean c labels ls h in
    let back = lines_back ms (column_some (resolved_line labels) ls (some_line text)) clean in
    let u = clean_unlabelled ms clean in (
      rw back u,
      line_by_line c (unlined ms) ms room back p.lawfully u (rw (kept_counts c labels ls h) p.enough) ∙
          (kept_words c labels 1 ls h ∙ sym p.answer),
    )
