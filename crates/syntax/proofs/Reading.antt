-- Reading a line: what is printed is read back, and what is read prints as it stood (specs/Claims.antt).
-- Assumes nothing.
use Prim.Native.Nat.{ℕ, zero, suc, ◌^◌, ◌<◌}
use mathlib.Core.Bool.{Bool, true, false, not}
use mathlib.Core.Path.{◌≡◌, refl, ap, sym, subst, ◌∙◌}
use mathlib.Core.Logic.{inl, inr}
use mathlib.Core.List.{List, [], ◌∷◌}
use native.Mathlib.Omega.{arith}
use native.Mathlib.Nat.{le_of_suc-le-suc, not-suc-le-zero}
use lib.Dec.{T}
use lib.ListN.{length, get_or}
use Rattle.laws.specs.Choice.{pick, pick_yes, pick_no, is_false, true_is, decided_yes}
use Rattle.laws.specs.Test.{Test, most, if?, ◌and◌, test, Holds, holds}
use Rattle.laws.specs.First.{first_failing, Numbered, obeyed}
use Rattle.laws.specs.Table.{every, at_every}
use Rattle.laws.specs.Lists.{column}
use Rattle.words.specs.declared.Config.{Config}
use Rattle.words.specs.declared.Instruction.{Instruction}
use Rattle.words.specs.Parts.{Option, Option-discrete, available, never, needs}
use Rattle.words.specs.Frames.{Column, DESTINATION, SOURCE, VALUE}
use Rattle.words.specs.Rows.{Row, rows, row_count, row_at}
use Rattle.words.specs.Words.{refusals567, refusals, parts_of, read_of}
use Rattle.words.specs.Claims.{understood}
use Rattle.words.proofs.Keys.{most_of}
use Rattle.words.proofs.RoundTrip.{decoded, stands}
use Rattle.syntax.specs.Pieces.{print, width_in}
use Rattle.syntax.proofs.Pieces.{read_print, no_common, equal_is, equal_same}
use Rattle.syntax.specs.Forms.{pieces_of, part_of, text_of, Form, form, form_of, numbers_of, flags_of, forms}
use Rattle.syntax.specs.Reading.{reading, is_form, Line, found, unread, first_in, read_line}
use Rattle.syntax.specs.Claims.{PrintThenRead, ReadThenPrint, UnreadNone}
use Rattle.syntax.proofs.Table.{pattern_of, all_apart, In, head_apart, tail_apart, forms_apart, forms_many, wide, all_in, forms_wide, in-forms}

-- a line of a form is what the form prints of what it reads
pub form_prints : (f : Form) (l : List ℕ) → T (is_form f l) → print (pieces_of f) (part_of (reading f l)) ≡ l
unfolding is_form
form_prints f l t = equal_is (print (pieces_of f) (part_of (reading f l))) l t

-- a form that reads its own print back claims it, and no form before it does

first_is : (fs : List Form) (f : Form) (g : Column → ℕ) (l : List ℕ) (i : Instruction) → T (all_apart (column pattern_of fs)) → In f fs →
    print (pieces_of f) g ≡ l → T (is_form f l) → reading f l ≡ i → first_in fs l ≡ found i
first_is [] f g l i a m p t e = absurd m
first_is (x ∷ fs) f g l i a (inl q) p t e =
    pick_yes (is_form x l) (found (reading x l)) (first_in fs l) (rw q at t) ∙ ap found (ap (λ (y : Form). reading y l) (sym q) ∙ e)
first_is (x ∷ fs) f g l i a (inr m) p t e =
    pick_no (is_form x l) (found (reading x l)) (first_in fs l)
    (λ s. no_common (pieces_of x) (pieces_of f) (part_of (reading x l)) g (head_apart x fs f a m) (form_prints x l s ∙ sym p)) ∙
    first_is fs f g l i (tail_apart x fs a) m p t e

-- parts within their digits

pub record Within (i : Instruction) : Type 0 where
  pub one : In (form_of i) forms
  pub upper : i.destination < 16 ^ width_in (pieces_of (form_of i)) DESTINATION
  pub lower : i.source < 16 ^ width_in (pieces_of (form_of i)) SOURCE
  pub rest : i.value < 16 ^ width_in (pieces_of (form_of i)) VALUE

reads_own : (c : Config) (i : Instruction) → Within i → reading (form_of i) (text_of c i) ≡ i
unfolding reading text_of part_of
reads_own c i h =
    let f = pieces_of (form_of i) in
    rw (read_print f (part_of i) DESTINATION h.upper, read_print f (part_of i) SOURCE h.lower, read_print f (part_of i) VALUE h.rest)

own_form : (c : Config) (i : Instruction) → Within i → T (is_form (form_of i) (text_of c i))
unfolding is_form text_of
own_form c i h = rw (reads_own c i h) (equal_same (text_of c i))

-- an instruction whose parts are within their digits is read back from its text
pub reads_printed : (c : Config) (i : Instruction) → Within i → read_line (text_of c i) ≡ found i
unfolding read_line text_of
reads_printed c i h =
    first_is forms (form_of i) (part_of i) (text_of c i) i forms_apart h.one refl (own_form c i h) (reads_own c i h)

-- a form that claims a line reads it; where none claims it, it is not read

pub own_print : (f : Form) (l : List ℕ) → T (is_form f l) → In f forms → read_line l ≡ found (reading f l)
unfolding read_line
own_print f l t m = first_is forms f (part_of (reading f l)) l (reading f l) forms_apart m (form_prints f l t) t refl

in-at : (fs : List Form) (q : ℕ) (d : Form) → q < length fs → In (get_or fs q d) fs
in-at [] q d h = absurd (not-suc-le-zero h)
in-at (x ∷ fs) zero d h = inl refl
in-at (x ∷ fs) (suc q) d h = inr (in-at fs q d (le_of_suc-le-suc h))

abbrev pub form_at : ℕ → Form
form_at q = get_or forms q (form 0 0 0)

pub claims : (q : ℕ) (l : List ℕ) → q < 186 → T (is_form (form_at q) l) → read_line l ≡ found (reading (form_at q) l)
claims q l h t = own_print (form_at q) l t (in-at forms q (form 0 0 0) (rw forms_many h))

none_in : (fs : List Form) (l : List ℕ) → ((q : ℕ) → q < length fs → T (is_form (get_or fs q (form 0 0 0)) l) → ⊥) → first_in fs l ≡ unread
none_in [] l k = refl
none_in (x ∷ fs) l k =
    pick_no (is_form x l) (found (reading x l)) (first_in fs l) (k 0 (omega arith)) ∙ none_in fs l (λ q h. k (suc q) (omega arith))

pub none_claims : (l : List ℕ) → ((q : ℕ) → q < 186 → T (is_form (form_at q) l) → ⊥) → read_line l ≡ unread
unfolding read_line
none_claims l k = none_in forms l (λ q h. k q (rw forms_many at h))

-- which form read a line

pub record ReadBy (fs : List Form) (l : List ℕ) (i : Instruction) : Type 0 where
  pub one : In (form_of i) fs
  pub own : T (is_form (form_of i) l)
  pub same : reading (form_of i) l ≡ i

first_by : (b : Bool) (x : Form) (fs : List Form) (l : List ℕ) (i : Instruction) (r : Line) → is_form x l ≡ b → (r ≡ found i → ReadBy fs l i) →
    pick b (found (reading x l)) r ≡ found i → ReadBy (x ∷ fs) l i
unfolding pick reading
first_by true x fs l i r e f q =
    let s : reading x l ≡ i = cc in
    let t : form_of i ≡ x = ap form_of (sym s) in
    record { one = inl t; own = rw t (true_is (is_form x l) e); same = subst (λ (y : Form). reading y l ≡ i) (sym t) s }
first_by false x fs l i r e f q = let s = f q in record { one = inr s.one; own = s.own; same = s.same }

firstly : (fs : List Form) (l : List ℕ) (i : Instruction) → first_in fs l ≡ found i → ReadBy fs l i
firstly [] l i e = let z : ◌≡◌ {A = ℕ} 0 1 = cc in absurd (omega arith)
firstly (x ∷ fs) l i e = first_by (is_form x l) x fs l i (first_in fs l) refl (firstly fs l i) e

pub read_by : (l : List ℕ) (i : Instruction) → read_line l ≡ found i → ReadBy forms l i
unfolding read_line
read_by l i e = firstly forms l i e

-- and what is read prints as it stood
pub read_then_print : ReadThenPrint
unfolding text_of
read_then_print c l i e = let r = read_by l i e in rw r.same at (form_prints (form_of i) l r.own)

-- a word that can be read has its parts within their digits

numbers : (c : Config) (r : Row) (i : Instruction) → Numbered (refusals c r i)
unfolding refusals refusals567
numbers c r i = (inr (omega arith), (inr (omega arith), (inr (omega arith), (inr (omega arith), tt))))

option_there : (c : Config) (i : Instruction) → first_failing (refusals c (row_at i.row) i) ≡ 0 → Holds (available c (row_at i.row).option)
unfolding refusals refusals567
option_there c i e = (obeyed (refusals c (row_at i.row) i) (numbers c (row_at i.row) i) e).1.1.0

-- what chooses the form: bit 26 and the byte number; tests over the rows
some_row : (c : Config) (o : Option) → Holds (available c o) → o ≡ never → ⊥
unfolding available
some_row c o h e = rw e at h

chooses : ℕ → Test
chooses n =
    most (most_of (row_at n).flag) (flags_of (row_at n).flag) and
    if? (not (needs (row_at n).option never)) (most (most_of (row_at n).number) (numbers_of (row_at n).number))

all_choose : T (every row_count (λ n. test (chooses n)))
unfolding chooses rows row_at most_of flags_of numbers_of pick
all_choose = tt

not_never : (o : Option) → (o ≡ never → ⊥) → T (not (needs o never))
not_never o h = rw (is_false (needs o never) (λ t. h (decided_yes (Option-discrete o never) t))) tt

within : (c : Config) (i : Instruction) → first_failing (refusals c (row_at i.row) i) ≡ 0 → Within i
unfolding chooses
within c i e =
    let r = row_at i.row in
    let s = stands c i e in
    let supported = some_row c r.option (option_there c i e) in
    let t = holds (chooses i.row) (at_every row_count (λ n. test (chooses n)) i.row all_choose s.row) in
    let n = t.1 (not_never r.option supported) in
    let m = t.0 in
    let sf = s.flag in
    let sn = s.number in
    let sd = s.destination in
    let ss = s.source in
    let sv = s.value in
    let one = in-forms i.row i.flag i.number s.row supported (omega arith) (omega arith) in
    let w = holds (wide (form_of i)) (all_in (λ g. test (wide g)) forms (form_of i) forms_wide one) in
    let w0 = w.0 in
    let w1 = w.1.0 in
    let w2 = w.1.1 in
    record { one = one; upper = omega arith; lower = omega arith; rest = omega arith }

pub readable_within : (c : Config) (w : ℕ) (i : Instruction) → read_of c w ≡ understood i → Within i
unfolding read_of
readable_within c w i e =
    let n = first_failing (refusals c (row_at (parts_of c w).row) (parts_of c w)) in
    let p = decoded n (parts_of c w) i e in
    rw p.1 at (within c (parts_of c w) p.0)

pub print_then_read : PrintThenRead
print_then_read c w i e = reads_printed c i (readable_within c w i e)

pub unread_none : UnreadNone
unread_none c l w i e h t =
    let f : read_line l ≡ found i = rw t at (print_then_read c w i h) in
    let z : ◌≡◌ {A = ℕ} 0 1 = cc in
    omega arith
