-- The first pass: what is left of the lines, after what is gathered, is the whole.
-- Assumes nothing.
use Prim.Native.Nat.{ℕ, suc, ◌+◌, ◌-◌, ◌<◌, ◌≤◌}
use mathlib.Core.Bool.{Bool, true, false, ◌&&◌}
use mathlib.Core.Path.{◌≡◌, refl, ap, sym, subst, ◌∙◌}
use mathlib.Core.List.{List, [], ◌∷◌}
use native.Mathlib.Omega.{arith}
use borrow.Author.Tests.{eqb-true, eqb-false, ne_eqb, le-leb, lt-leb}
use lib.Dec.{eqb, leb}
use lib.ListN.{length, take, drop}
use lib.Seq.{slice}
use Rattle.std.specs.Bool.{then_some}
use Rattle.std.specs.Int.{from_bool}
use Rattle.std.specs.Option.{option_or}
use Rattle.std.specs.Prelude.{Option, Some, None, is_some, Ok, Err}
use Rattle.laws.specs.Choice.{pick, true_is}
use Rattle.syntax.specs.Lines.{lines_of, letters_of, labelled, counts}
use Rattle.syntax.specs.Labels.{Label, label, gathered, known, repeats}
use Rattle.syntax.specs.Assembly.{how_many}
use Rattle.assembler.specs.declared.errors.AssembleError.TheVariants.{TooMany, DoubledLabel}
use Rattle.assembler.specs.declared.keys.Key.{Key}
use Rattle.assembler.specs.declared.labels.Labels.{Labels}
use Rattle.assembler.specs.declared.openings.Opening.{Opening}
use Rattle.assembler.specs.Bytes.{lines_from, LineEnd}
use Rattle.assembler.specs.Chains.{spell}
use Rattle.assembler.specs.Entries.{keys_of, places_of}
use Rattle.assembler.specs.Gathering.{is_known, Added, gather_number, Gathers}
use Rattle.assembler.specs.Keys.{key_number}
use Rattle.assembler.specs.Openings.{opening_key, Opens}
use Rattle.assembler.specs.Tables.{Tabled, Inserted}
use Rattle.assembler.proofs.bytes.Laws.{lines_start, lines_past, part_line}
use Rattle.assembler.proofs.labels.Laws.{letters_small, names_of, keyed_insert, keyed_known}
use Rattle.assembler.proofs.openings.Laws.{labelled_key, unlabelled_key}

-- a line as code takes it out of the text

pub opens_here : (text : List ℕ) (s e : ℕ) (o : Opening) → LineEnd text s e → Opens (take (e - s) (drop s text)) o → Opens (slice s e text) o
opens_here text s e o i h = subst (λ (l : List ℕ). Opens l o) (part_line text s e i.forward i.inside) h

pub counts_here : (text : List ℕ) (s e : ℕ) (b : Bool) → LineEnd text s e → b ≡ counts (take (e - s) (drop s text)) → b ≡ counts (slice s e text)
counts_here text s e b i h = h ∙ ap counts (part_line text s e i.forward i.inside)

-- the table is full, or no word is left

both_true : (a b : Bool) → (a && b) ≡ true → (a ≡ true) × (b ≡ true)
both_true true b e = (refl, e)
both_true false b e = absurd (true_is false e)

one_false : (a b : Bool) → (a && b) ≡ false → a ≡ true → b ≡ false
one_false true b e u = e
one_false false b e u = absurd (true_is false u)

pub full : (a b : Bool) (n m : ℕ) → b ≡ eqb n m → (a && b) ≡ true → (a ≡ true) × (n ≡ m)
full a b n m q e = let p = both_true a b e in (p.0, eqb-true n m (sym q ∙ p.1))

pub not_full : (a b : Bool) (n m : ℕ) → b ≡ eqb n m → (a && b) ≡ false → n ≤ m → a ≡ true → n < m
not_full a b n m q e h u = let d = eqb-false n m (sym q ∙ one_false a b e u) in omega arith

pub number_some : (k : Option Key) (b : Bool) → b ≡ is_some k → b ≡ true → is_some (key_number k) ≡ true
number_some None b q e = sym q ∙ e
number_some (Some k) b q e = refl

-- one line of several

-- the line that repeats a label, if one did, or what is left says
abbrev doubled : Option ℕ → ℕ → ℕ
doubled None rest = rest
doubled (Some k) rest = k

count_more : (b : Bool) (n m x : ℕ) → n + pick b (suc m) m ≡ x → pick b (suc n) n + m ≡ x
unfolding pick
count_more true n m x e = omega arith
count_more false n m x e = e

pub one_more : (b : Bool) (n : ℕ) → n + from_bool b ≡ pick b (suc n) n
unfolding pick
one_more true n = omega arith
one_more false n = omega arith

pub first_again : (twice r : Option ℕ) (b : Bool) (line : ℕ) → b ≡ true → r ≡ option_or twice (Some line) → r ≡ option_or twice (then_some b line)
first_again twice r b line e q = rw e q

pub first_before : (twice : Option ℕ) (b : Bool) (line : ℕ) → b ≡ false → twice ≡ option_or twice (then_some b line)
first_before None b line e = rw e
first_before (Some n) b line e = refl

twice_more : (names ls : List (List ℕ)) (s : List ℕ) (line whole : ℕ) (twice : Option ℕ) (b k : Bool) →
    doubled twice (pick b (pick k line (repeats (s ∷ names) (suc line) ls)) (repeats names (suc line) ls)) ≡ whole →
    doubled (option_or twice (then_some (b && k) line)) (repeats (pick b (s ∷ names) names) (suc line) ls) ≡ whole
unfolding pick
twice_more names ls s line whole (Some n) b k e = e
twice_more names ls s line whole None true true e = e
twice_more names ls s line whole None true false e = e
twice_more names ls s line whole None false k e = e

twice_positive : (twice : Option ℕ) (b : Bool) (line : ℕ) → 0 < line → ((k : ℕ) → twice ≡ Some k → 0 < k) → (k : ℕ) → option_or twice (then_some b line) ≡ Some k → 0 < k
twice_positive (Some n) b line h f k e = f k e
twice_positive None true line h f k e = rw (ap value e) at h
  where
    value : Option ℕ → ℕ
    value None = 0
    value (Some n) = n
twice_positive None false line h f k e = f k e

-- what holds before the line at s, the pass's invariant
pub record Going (text : List ℕ) (room s line words : ℕ) (twice : Option ℕ) (t : Labels) : Type 0 where
  pub seen : List Label
  pub tabled : Tabled t seen
  pub numbered : (0 < line) × (line ≤ suc s)
  pub near : s ≤ suc (length text)
  pub labels_left : t.count + how_many labelled (lines_from text s) ≡ how_many labelled (lines_of text)
  pub words_left : words + how_many counts (lines_from text s) ≡ how_many counts (lines_of text)
  pub words_few : (words ≤ room) × (words ≤ s)
  pub twice_left : doubled twice (repeats (names_of seen) line (lines_from text s)) ≡ repeats [] 1 (lines_of text)
  pub positive : (k : ℕ) → twice ≡ Some k → 0 < k
  pub gathered_left : gathered seen words (lines_from text s) ≡ gathered [] 0 (lines_of text)

pub going_first : (text : List ℕ) (room : ℕ) (t : Labels) → Tabled t [] → Going text room 0 1 0 None t
going_first text room t h =
    let e = lines_start text in
    record {
      seen = [];
      tabled = h;
      numbered = (omega arith, omega arith);
      near = omega arith;
      labels_left = rw e (omega (arith, h.many));
      words_left = rw e (omega arith);
      words_few = (omega arith, omega arith);
      twice_left = rw e;
      positive = λ k q. absurd (none_some k q);
      gathered_left = rw e;
    }
  where
    none_some : (k : ℕ) → None ≡ Some k → ⊥
    none_some k q = true_is false (ap is_some q)

module _ (text : List ℕ) (room s line words : ℕ) (twice : Option ℕ) (t : Labels) (g : Going text room s line words twice t) (e : ℕ) (end : LineEnd text s e)
    (x : Option ℕ) (key : x ≡ opening_key (slice s e text)) where
  l : List ℕ
  l = slice s e text

  ls : List (List ℕ)
  ls = lines_from text (suc e)

  abbrev names : List (List ℕ)
  names = names_of g.seen

  -- the counts with the line taken off
  labels_here : t.count + pick (labelled l) (suc (how_many labelled ls)) (how_many labelled ls) ≡ how_many labelled (lines_of text)
  unfolding l ls
  labels_here = rw end.parted at g.labels_left

  words_here : words + pick (counts l) (suc (how_many counts ls)) (how_many counts ls) ≡ how_many counts (lines_of text)
  unfolding l ls
  words_here = rw end.parted at g.words_left

  twice_here : doubled twice (pick (labelled l) (pick (known names (letters_of l)) line (repeats (letters_of l ∷ names) (suc line) ls)) (repeats names (suc line) ls)) ≡
      repeats [] 1 (lines_of text)
  unfolding l ls repeats
  twice_here = rw end.parted at g.twice_left

  gathered_here : gathered (pick (labelled l) (label (letters_of l) words ∷ g.seen) g.seen) (pick (counts l) (suc words) words) ls ≡ gathered [] 0 (lines_of text)
  unfolding l ls gathered
  gathered_here = rw end.parted at g.gathered_left

  -- 36

  pub labels_many : is_some x ≡ true → t.count ≡ 1024 → 1024 < how_many labelled (lines_of text)
  unfolding l pick
  labels_many h q = go (labelled l) refl
    where
      go : (b : Bool) → labelled l ≡ b → 1024 < how_many labelled (lines_of text)
      go true u = let p = rw u at labels_here in omega arith
      go false u = absurd (true_is false (sym (ap is_some (key ∙ unlabelled_key l u)) ∙ h))

  pub words_many : (b : Bool) → b ≡ counts (slice s e text) → b ≡ true → words ≡ room → room < how_many counts (lines_of text)
  unfolding l pick
  words_many b u v q = let p = rw (sym u ∙ v) at words_here in omega arith

  -- the next line

  again_is : (again : Bool) → again ≡ is_known t x → again ≡ (labelled l && known names (letters_of l))
  unfolding l
  again_is again u = u ∙ ap (is_known t) key ∙ go (labelled l) refl
    where
      go : (b : Bool) → labelled l ≡ b → is_known t (opening_key l) ≡ (labelled l && known names (letters_of l))
      go true v =
          rw (v, (labelled_key l v).0, g.tabled.many)
          (keyed_known (keys_of t.entries) (places_of t.entries) g.seen (letters_of l) g.tabled.keyed (letters_small l))
      go false v = rw (v, unlabelled_key l v)

  module _ (t' : Labels) (added : Added t x words t') where
    seen' : List Label
    seen' = pick (labelled l) (label (letters_of l) words ∷ g.seen) g.seen

    added_here : Added t (opening_key l) words t'
    unfolding l
    added_here = subst (λ (k : Option ℕ). Added t k words t') key added

    inserted_here : labelled l ≡ true → Inserted t (spell 0 (letters_of l)) words t'
    inserted_here v = subst (λ (k : Option ℕ). Added t k words t') (labelled_key l v).0 added_here

    same_here : labelled l ≡ false → t' ≡ t
    same_here v = subst (λ (k : Option ℕ). Added t k words t') (unlabelled_key l v) added_here

    tabled' : Tabled t' seen'
    unfolding seen' pick
    tabled' = go (labelled l) refl
      where
        go : (b : Bool) → labelled l ≡ b → Tabled t' (pick b (label (letters_of l) words ∷ g.seen) g.seen)
        go true v =
            let i = inserted_here v in
            record {
              many = i.counted ∙ ap suc g.tabled.many;
              keyed = keyed_insert t t' _ words g.seen (letters_of l) g.tabled.keyed g.tabled.many i refl (labelled_key l v).1 (letters_small l);
            }
        go false v = subst (λ (u : Labels). Tabled u g.seen) (sym (same_here v)) g.tabled

    labels_now : t'.count ≡ pick (labelled l) (suc t.count) t.count
    unfolding pick
    labels_now = go (labelled l) refl
      where
        go : (b : Bool) → labelled l ≡ b → t'.count ≡ pick b (suc t.count) t.count
        go true v = (inserted_here v).counted
        go false v = ap (λ (u : Labels). u.count) (same_here v)

    names_now : names_of seen' ≡ pick (labelled l) (letters_of l ∷ names) names
    unfolding seen' pick
    names_now = go (labelled l)
      where
        go : (b : Bool) → names_of (pick b (label (letters_of l) words ∷ g.seen) g.seen) ≡ pick b (letters_of l ∷ names) names
        go true = refl
        go false = refl

    pub going_on : (again counted : Bool) (twice' : Option ℕ) (words' : ℕ) → again ≡ is_known t x → counted ≡ counts (slice s e text) →
        twice' ≡ option_or twice (then_some again line) → words' ≡ words + from_bool counted → (counted ≡ true → words < room) →
        Going text room (e + 1) (line + 1) words' twice' t'
    unfolding l ls seen' pick
    going_on again counted twice' words' a k d w f =
        let q : e + 1 ≡ suc e = omega arith in
        let r : line + 1 ≡ suc line = omega arith in
        let ends = end.forward in
        let inner = end.inside in
        let nl = g.numbered in
        let wf = g.words_few in
        let w' : words' ≡ pick counted (suc words) words = w ∙ one_more counted words in
        record {
          seen = seen';
          tabled = tabled';
          numbered = (omega arith, omega arith);
          near = omega arith;
          labels_left = rw (q, labels_now) (count_more (labelled l) t.count (how_many labelled ls) _ labels_here);
          words_left = rw (q, w', k) (count_more (counts l) words (how_many counts ls) _ words_here);
          words_few = rw w' (few_words counted wf.0 wf.1 end.forward refl);
          twice_left =
              rw (q, r, names_now, d, again_is again a)
              (twice_more names ls (letters_of l) line _ twice (labelled l) (known names (letters_of l)) twice_here);
          positive = λ k u. twice_positive twice again line g.numbered.0 g.positive k (sym d ∙ u);
          gathered_left = rw (q, w', k) gathered_here;
        }
      where
        few_words : (b : Bool) → words ≤ room → words ≤ s → s ≤ e → counted ≡ b → (pick b (suc words) words ≤ room) × (pick b (suc words) words ≤ e + 1)
        few_words true h i j v = let y = f v in (omega arith, omega arith)
        few_words false h i j v = (omega arith, omega arith)

-- what the pass answers

gather_36 : (ls : List (List ℕ)) (room : ℕ) → (leb (how_many labelled ls) 1024 && leb (how_many counts ls) room) ≡ false → gather_number ls room ≡ 36
unfolding gather_number pick
gather_36 ls room e = rw e

pub too_many : (text : List ℕ) (room : ℕ) (t : Labels) →
    (leb (how_many labelled (lines_of text)) 1024 && leb (how_many counts (lines_of text)) room) ≡ false → Gathers text room (Err TooMany) t
unfolding pick
too_many text room t e = record { number = sym (gather_36 (lines_of text) room e); line = refl; tabled = λ z. absurd (omega (arith, z)) }

pub labels_fail : (ls : List (List ℕ)) (room : ℕ) → 1024 < how_many labelled ls → (leb (how_many labelled ls) 1024 && leb (how_many counts ls) room) ≡ false
labels_fail ls room h = rw (lt-leb (how_many labelled ls) 1024 h)

pub words_fail : (ls : List (List ℕ)) (room : ℕ) → room < how_many counts ls → (leb (how_many labelled ls) 1024 && leb (how_many counts ls) room) ≡ false
words_fail ls room h = rw (lt-leb (how_many counts ls) room h) (go (leb (how_many labelled ls) 1024))
  where
    go : (b : Bool) → (b && false) ≡ false
    go true = refl
    go false = refl

module _ (text : List ℕ) (room s line words : ℕ) (twice : Option ℕ) (t : Labels) (few : t.count ≤ 1024) (g : Going text room s line words twice t) (past : length text < s) where
  ended : lines_from text s ≡ []
  ended = lines_past text s past

  twice_all : doubled twice 0 ≡ repeats [] 1 (lines_of text)
  unfolding repeats
  twice_all = rw ended at g.twice_left

  within : (leb (how_many labelled (lines_of text)) 1024 && leb (how_many counts (lines_of text)) room) ≡ true
  within =
      let a = rw ended at g.labels_left in
      let b = rw ended at g.words_left in
      let w = g.words_few.0 in
      rw (le-leb (how_many labelled (lines_of text)) 1024 (omega arith), le-leb (how_many counts (lines_of text)) room (omega arith))

  pub doubled_label : (k : ℕ) → twice ≡ Some k → Gathers text room (Err (DoubledLabel k)) t
  unfolding gather_number pick
  doubled_label k e =
      let q : k ≡ repeats [] 1 (lines_of text) = sym (ap (λ (d : Option ℕ). doubled d 0) e) ∙ twice_all in
      let p = g.positive k e in
      record {
        number = sym (rw (within, ← q, ne_eqb k 0 (λ z. omega (arith, p, z))));
        line = q;
        tabled = λ z. absurd (omega (arith, z));
      }

  pub all_gathered : twice ≡ None → Gathers text room (Ok tt) t
  unfolding gather_number pick gathered
  all_gathered e =
      let q : 0 ≡ repeats [] 1 (lines_of text) = sym (ap (λ (d : Option ℕ). doubled d 0) e) ∙ twice_all in
      record {
        number = sym (rw (within, ← q));
        line = refl;
        tabled = λ _. rw (← g.gathered_left, ended) g.tabled;
      }
