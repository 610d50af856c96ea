-- A listing prints whole lines: all of them on a page that is large enough, the same in two parts as in one, and it touches no other byte.
-- Assumes nothing.
use Prim.Native.Nat.{ℕ, zero, suc, ◌+◌, ◌-◌, ◌/◌, ◌%◌, ◌≤◌, ◌<◌}
use mathlib.Core.Path.{◌≡◌, refl, sym, ap, ◌∙◌}
use mathlib.Core.Bool.{Bool, true, false}
use mathlib.Core.List.{List, [], ◌∷◌, ◌++◌, append_assoc}
use native.Mathlib.Nat.{add-zero, zero-add, add-suc, suc-add}
use native.Mathlib.Omega.{arith}
use borrow.Author.Tests.{le-ltb, le-leb, ltb-false, leb-true, eqb-true, eqb-false, ne_eqb}
use lib.Dec.{eqb, leb, ltb}
use lib.ListN.{length, get_or, take, drop, length-append}
use lib.Seq.{slice_empty}
use Rattle.laws.specs.Choice.{pick, either, is_true, is_false}
use Rattle.laws.specs.First.{numbered, none_fails, obeyed}
use Rattle.laws.specs.Test.{Holds, same, most, test, tests}
use Rattle.words.specs.declared.Config.{Config}
use Rattle.words.specs.Configs.{lawful}
use Rattle.words.specs.Claims.{understood}
use Rattle.words.specs.Words.{Read, read_lawful, read_of}
use Rattle.words.proofs.Answers.{lawful_read}
use Rattle.syntax.specs.Claims.{text_of_word}
use Rattle.syntax.specs.Forms.{text_of}
use Rattle.syntax.proofs.Lengths.{text_short}
use Rattle.text.specs.declared.listing.Listed.{Listed}
use Rattle.text.specs.Pages.{written}
use Rattle.text.specs.Texts.{text_limit, decimal, refused_text, shown_text, word_text}
use Rattle.text.specs.Lines.{line_at, lines_from, Listing, listing, listed, list_number, list_of}
use Rattle.text.specs.Answers.{listed_of}
use Rattle.text.specs.Claims.{lines_to_end, printed_from, line_frame, ListsWhole, ListsInParts, ListsOn, ListsForward, ListsKeep, ListsTexts, Lists}
use Rattle.text.proofs.Written.{before_stays, beyond_stays, between, written_append, written_none, length_written}
use Rattle.text.proofs.listing.Laws.{length_line}

-- lines, one part after another

lines_suc : (c : Config) (image : List ℕ) (a n : ℕ) → lines_from c image a (suc n) ≡ line_at c image a ++ lines_from c image (suc a) n
unfolding lines_from
lines_suc c image a n = refl

lines_none : (c : Config) (image : List ℕ) (a : ℕ) → lines_from c image a 0 ≡ []
unfolding lines_from
lines_none c image a = refl

pub lines_add : (c : Config) (image : List ℕ) (a k n : ℕ) → lines_from c image a (k + n) ≡ lines_from c image a k ++ lines_from c image (a + k) n
unfolding lines_from
lines_add c image a zero n = rw (zero-add, add-zero)
lines_add c image a (suc k) n =
    rw (suc-add k n, lines_suc, lines_add c image (suc a) k n, append_assoc, add-suc, suc-add)

-- what a listing of n lines from a did: so many whole lines, all of them where it passed
record Did (c : Config) (image page : List ℕ) (place a n : ℕ) (r : Listing) : Type 0 where
  lines : ℕ
  at_most : lines ≤ n
  next_is : r.next ≡ a + lines
  place_is : r.place ≡ place + length (lines_from c image a lines)
  page_is : r.page ≡ written page place (lines_from c image a lines)
  fits : place + length (lines_from c image a lines) ≤ length page
  passed : r.number ≡ 0 → lines ≡ n
  stopped : (r.number ≡ 0 → ⊥) → lines < n

none_done : (c : Config) (image page : List ℕ) (place a n number : ℕ) → place ≤ length page → (number ≡ 0 → 0 ≡ n) → ((number ≡ 0 → ⊥) → 0 < n) →
    Did c image page place a n (listing number place a page)
unfolding lines_from
none_done c image page place a n number h z y =
    record {
      lines = 0;
      at_most = omega arith;
      next_is = sym (add-zero a);
      place_is = sym (add-zero place);
      page_is = sym (written_none page place);
      fits = omega arith;
      passed = z;
      stopped = y;
    }

one_more : (c : Config) (image page : List ℕ) (place a n : ℕ) (r : Listing) → place + length (line_at c image a) ≤ length page →
    Did c image (written page place (line_at c image a)) (place + length (line_at c image a)) (suc a) n r → Did c image page place a (suc n) r
one_more c image page place a n r h d =
    let t = line_at c image a in
    let k = d.lines in
    let e : lines_from c image a (suc k) ≡ t ++ lines_from c image (suc a) k = lines_suc c image a k in
    let l : length (lines_from c image a (suc k)) ≡ length t + length (lines_from c image (suc a) k) = ap length e ∙ length-append t (lines_from c image (suc a) k) in
    record {
      lines = suc k;
      at_most = omega arith;
      next_is = d.next_is ∙ omega arith;
      place_is = d.place_is ∙ omega (arith, l);
      page_is = d.page_is ∙ sym (written_append page place t (lines_from c image (suc a) k)) ∙ ap (λ (x : List ℕ). written page place x) (sym e);
      fits = omega (arith, l, d.fits, length_written page place t);
      passed = λ z. ap suc (d.passed z);
      stopped = λ z. omega (arith, d.stopped z);
    }

did : (c : Config) (image : List ℕ) (n : ℕ) (page : List ℕ) (place a : ℕ) → place ≤ length page → Did c image page place a n (listed c image page place a n)
unfolding listed pick
did c image zero page place a h = none_done c image page place a 0 0 h (λ z. refl) (λ z. absurd (z refl))
did c image (suc n) page place a h =
    go (leb (place + length (line_at c image a)) (length page)) refl
    (λ k. did c image n (written page place (line_at c image a)) (place + length (line_at c image a)) (suc a) (rw length_written k))
  where
    go : (b : Bool) → leb (place + length (line_at c image a)) (length page) ≡ b →
        (place + length (line_at c image a) ≤ length page →
        Did c image (written page place (line_at c image a)) (place + length (line_at c image a)) (suc a) n
        (listed c image (written page place (line_at c image a)) (place + length (line_at c image a)) (suc a) n)) →
        Did c image page place a (suc n)
        (pick b (listed c image (written page place (line_at c image a)) (place + length (line_at c image a)) (suc a) n) (listing 18 place a page))
    go true e ih = let k = leb-true (place + length (line_at c image a)) (length page) e in one_more c image page place a n _ k (ih k)
    go false e ih = none_done c image page place a (suc n) 18 h (λ z. absurd (omega arith)) (λ z. omega arith)

-- where all lines fit, all are listed
all_fit : (c : Config) (image : List ℕ) (n : ℕ) (page : List ℕ) (place a : ℕ) → place + length (lines_from c image a n) ≤ length page →
    (listed c image page place a n).number ≡ 0
unfolding listed pick
all_fit c image zero page place a h = refl
all_fit c image (suc n) page place a h =
    let t = line_at c image a in
    let l : length (lines_from c image a (suc n)) ≡ length t + length (lines_from c image (suc a) n) =
    ap length (lines_suc c image a n) ∙ length-append t (lines_from c image (suc a) n)
    in
    let k : place + length t ≤ length page = omega (arith, l) in
    rw (le-leb (place + length t) (length page) k)
    (all_fit c image n (written page place t) (place + length t) (suc a) (rw length_written (omega (arith, l))))

made : (r : Listing) (number place next : ℕ) (page : List ℕ) → r.number ≡ number → r.place ≡ place → r.next ≡ next → r.page ≡ page →
    r ≡ listing number place next page
made r number place next page e f g h = rw (← e, ← f, ← g, ← h)

-- the call

module _ (c : Config) (image : List ℕ) (first : ℕ) (page : List ℕ) (place : ℕ) where
  starts : list_number c (length image) (length page) place ≡ 0 → Holds (lawful c) × (length image ≡ c.imsize) × (place ≤ length page)
  unfolding list_number
  starts z =
      let o = obeyed ((1, lawful c) ∷ (2, same (length image) c.imsize) ∷ (18, most place (length page)) ∷ [])
      (numbered ((1, lawful c) ∷ (2, same (length image) c.imsize) ∷ (18, most place (length page)) ∷ []) tt) z
      in
      (o.0, o.1.0, o.1.1.0)

  started : Holds (lawful c) → length image ≡ c.imsize → place ≤ length page → list_number c (length image) (length page) place ≡ 0
  unfolding list_number
  started l e h =
      none_fails ((1, lawful c) ∷ (2, same (length image) c.imsize) ∷ (18, most place (length page)) ∷ []) (l, (e, (h, tt)))

  -- a listing that 1, 2 and a place beyond the page do not refuse, and one that they refuse
  listed_is : list_number c (length image) (length page) place ≡ 0 →
      list_of c image first page place ≡ listed c image page place first (length image - first)
  unfolding list_of pick
  listed_is z = rw z

  refused_is : (list_number c (length image) (length page) place ≡ 0 → ⊥) →
      list_of c image first page place ≡ listing (list_number c (length image) (length page) place) place first page
  unfolding list_of pick
  refused_is z = rw (ne_eqb (list_number c (length image) (length page) place) 0 z)

  list_did : list_number c (length image) (length page) place ≡ 0 →
      Did c image page place first (length image - first) (list_of c image first page place)
  list_did z = rw (listed_is z) (did c image (length image - first) page place first (starts z).2)

  -- where it passes, it was not refused
  not_refused : (list_of c image first page place).number ≡ 0 → list_number c (length image) (length page) place ≡ 0
  not_refused z = go (eqb (list_number c (length image) (length page) place) 0) refl
    where
      go : (b : Bool) → eqb (list_number c (length image) (length page) place) 0 ≡ b → list_number c (length image) (length page) place ≡ 0
      go true e = eqb-true (list_number c (length image) (length page) place) 0 e
      go false e =
          sym (ap (λ (r : Listing). r.number) (refused_is (eqb-false (list_number c (length image) (length page) place) 0 e))) ∙ z

  -- what it printed
  did_print : (d : Did c image page place first (length image - first) (list_of c image first page place)) →
      printed_from place (list_of c image first page place) ≡ lines_from c image first d.lines
  did_print d = rw (d.place_is, d.page_is) (between page place (lines_from c image first d.lines) d.fits)

  passed_prints : (list_of c image first page place).number ≡ 0 → printed_from place (list_of c image first page place) ≡ lines_to_end c image first
  passed_prints z =
      let d = list_did (not_refused z) in
      did_print d ∙ ap (lines_from c image first) (d.passed z)

pub lists_whole : ListsWhole
lists_whole c image page place l e h =
    let n = length image in
    let z = started c image 0 page place l e (omega arith) in
    let d = list_did c image 0 page place z in
    let p : (list_of c image 0 page place).number ≡ 0 =
    ap (λ (r : Listing). r.number) (listed_is c image 0 page place z) ∙ all_fit c image (n - 0) page place 0 h
    in
    let k : d.lines ≡ n - 0 = d.passed p in
    made (list_of c image 0 page place) 0 (place + length (lines_to_end c image 0)) n (written page place (lines_to_end c image 0)) p
    (d.place_is ∙ rw k)
    (d.next_is ∙ omega (arith, k))
    (d.page_is ∙ rw k)

-- what is printed, and the lines after it

after_lines : (c : Config) (image : List ℕ) (first k next : ℕ) → k ≤ length image - first → next ≡ first + k →
    lines_from c image first k ++ lines_to_end c image next ≡ lines_to_end c image first
after_lines c image first k next h e =
    let m : length image - next ≡ length image - first - k = omega arith in
    let s : k + (length image - first - k) ≡ length image - first = omega arith in
    rw (m, e) (sym (lines_add c image first k (length image - first - k)) ∙ ap (lines_from c image first) s)

pub lists_on : ListsOn
lists_on c image first page place = go (eqb (list_number c (length image) (length page) place) 0) refl
  where
    go : (b : Bool) → eqb (list_number c (length image) (length page) place) 0 ≡ b →
        let r = list_of c image first page place in
        (printed_from place r ++ lines_to_end c image r.next ≡ lines_to_end c image first) × (r.number ≡ 0 → lines_to_end c image r.next ≡ [])
    go true e =
        let d = list_did c image first page place (eqb-true (list_number c (length image) (length page) place) 0 e) in (
          ap (λ (t : List ℕ). t ++ lines_to_end c image (list_of c image first page place).next) (did_print c image first page place d)
              ∙ after_lines c image first d.lines _ d.at_most d.next_is,
          λ z.
              let k = d.passed z in
              let n : length image - (list_of c image first page place).next ≡ 0 = omega (arith, d.next_is, d.at_most, k) in
              rw n (lines_none c image (list_of c image first page place).next),
        )
    go false e =
        let f = eqb-false (list_number c (length image) (length page) place) 0 e in
        let r = refused_is c image first page place f in (
          ap (λ (x : Listing). printed_from place x ++ lines_to_end c image x.next) r ∙ ap (λ (t : List ℕ). t ++ lines_to_end c image first) (slice_empty place page),
          λ z. absurd (f (not_refused c image first page place z)),
        )

pub lists_in_parts : ListsInParts
lists_in_parts c image first page place new wide from z y =
    let one = list_of c image first page place in
    ap (λ (t : List ℕ). printed_from place one ++ t) (passed_prints c image one.next new 0 z) ∙ (lists_on c image first page place).0
    ∙ sym (passed_prints c image first wide from y)

-- a line is short, and where it has room it is printed

pub decimal_short : (n : ℕ) → length (decimal n) ≤ 2
unfolding decimal
decimal_short n = either (λ (t : List ℕ). length t ≤ 2) (ltb n 10) ((n + 48) ∷ []) ((n / 10 + 48) ∷ (n % 10 + 48) ∷ []) (λ t. omega arith) (λ t. omega arith)

refused_short : (n : ℕ) → length (refused_text n) ≤ text_limit
unfolding refused_text
refused_short n = omega (arith, decimal_short n)

word_short : (c : Config) (w : ℕ) → length (word_text c w) ≤ text_limit
unfolding word_text shown_text
word_short c w =
    let r = read_lawful c w in
    let t = text_of c r.instruction in
    either (λ (s : List ℕ). length s ≤ text_limit) (eqb r.number 0) (pick (ltb text_limit (length t)) (refused_text 23) t) (refused_text r.number)
    (λ z. either (λ (s : List ℕ). length s ≤ text_limit) (ltb text_limit (length t)) (refused_text 23) t (λ y. refused_short 23) (λ y. ltb-false text_limit (length t) (is_false _ y)))
    (λ z. refused_short r.number)

line_short : (c : Config) (image : List ℕ) (a : ℕ) → length (line_at c image a) ≤ text_limit + line_frame
unfolding line_at
line_short c image a = let w = get_or image a 0 in omega (arith, word_short c w, length_line a w (word_text c w))

goes_forward : (c : Config) (image : List ℕ) (n : ℕ) (page : List ℕ) (place a : ℕ) → place + (text_limit + line_frame) ≤ length page →
    ((listed c image page place a n).number ≡ 0 → ⊥) → (a < (listed c image page place a n).next) × ((listed c image page place a n).next < a + n)
unfolding listed pick
goes_forward c image zero page place a h z = absurd (z refl)
goes_forward c image (suc n) page place a h z =
    let t = line_at c image a in
    let k : place + length t ≤ length page = omega (arith, line_short c image a) in
    let e : listed c image page place a (suc n) ≡ listed c image (written page place t) (place + length t) (suc a) n = rw (le-leb (place + length t) (length page) k) in
    let d = did c image n (written page place t) (place + length t) (suc a) (rw length_written k) in
    let s = d.stopped (λ y. z (ap (λ (r : Listing). r.number) e ∙ y)) in
    let m : (listed c image page place a (suc n)).next ≡ suc a + d.lines = ap (λ (r : Listing). r.next) e ∙ d.next_is in
    (omega (arith, m), omega (arith, m, s))

pub lists_forward : ListsForward
lists_forward c image first page place l e h z =
    let n = length image - first in
    let i = listed_is c image first page place (started c image first page place l e (omega arith)) in
    let g = goes_forward c image n page place first h (λ y. z (ap (λ (r : Listing). r.number) i ∙ y)) in
    let m : (list_of c image first page place).next ≡ (listed c image page place first n).next = ap (λ (r : Listing). r.next) i in
    (omega (arith, m, g.0), omega (arith, m, g.0, g.1))

abbrev Keeps : List ℕ → ℕ → Listing → Type 0
Keeps page place r =
    (take place r.page ≡ take place page) × (drop r.place r.page ≡ drop r.place page) × (length r.page ≡ length page) ×
    (place ≤ length page → r.place ≤ length page)

pub lists_keep : ListsKeep
lists_keep c image first page place = go (eqb (list_number c (length image) (length page) place) 0) refl
  where
    go : (b : Bool) → eqb (list_number c (length image) (length page) place) 0 ≡ b → Keeps page place (list_of c image first page place)
    go true e =
        let d = list_did c image first page place (eqb-true (list_number c (length image) (length page) place) 0 e) in
        let t = lines_from c image first d.lines in
        rw (d.place_is, d.page_is)
        (before_stays page place t d.fits, beyond_stays page place t d.fits, length_written page place t, λ _. d.fits)
    go false e = rw (refused_is c image first page place (eqb-false (list_number c (length image) (length page) place) 0 e)) (refl, refl, refl, λ h. h)

-- the text of a word that can be read is short, and so stands in the listing

understands : (c : Config) (w : ℕ) → (read_of c w).number ≡ 0 → read_of c w ≡ understood (read_of c w).instruction
understands c w e = go (read_of c w) e
  where
    go : (r : Read) → r.number ≡ 0 → r ≡ understood r.instruction
    go r e = λ i. record { number = e i; instruction = r.instruction }

pub lists_texts : ListsTexts
unfolding word_text shown_text pick
lists_texts c w h e =
    let s = text_short c w (read_of c w).instruction (understands c w e) in
    rw (lawful_read c w (is_true (test (lawful c)) (tests (lawful c) h)), e, le-ltb 20 (length (text_of_word c w)) (omega arith))

pub lists : (c : Config) (image : List ℕ) (first : ℕ) (page : List ℕ) (place : ℕ) (r : Listed) (after : List ℕ) →
    listed_of r after ≡ list_of c image first page place → Lists c image first page place r after
lists c image first page place r after e = record { answer = e; whole = lists_whole; parts = lists_in_parts; on = lists_on; forward = lists_forward; keeps = lists_keep; texts = lists_texts }
