-- What is computed of the table of texts: no two forms claim one line, and each part is shown in digits wide enough for its limit.
-- Assumes nothing.
use Prim.Native.Nat.{ℕ, zero, suc, ◌^◌, ◌+◌, ◌<◌}
use mathlib.Core.Bool.{Bool, true, ◌&&◌, beq}
use mathlib.Core.Path.{◌≡◌, refl, subst}
use mathlib.Core.Logic.{◌⊎◌, inl, inr}
use mathlib.Core.List.{List, [], ◌∷◌, ◌++◌}
use native.Mathlib.Omega.{arith}
use native.Mathlib.Nat.{add-zero, zero-add, add-suc, suc-add, le_of_suc-le-suc, not-suc-le-zero}
use lib.Dec.{T, eqb}
use lib.ListN.{length}
use Rattle.laws.specs.Choice.{pick, is_false, decided_yes}
use Rattle.laws.specs.Test.{Test, most, ◌and◌, test, and_left, and_right}
use Rattle.laws.specs.Lists.{column}
use Rattle.words.specs.Parts.{Part, unused, is, Option-discrete, never, needs}
use Rattle.words.specs.Frames.{DESTINATION, SOURCE, VALUE}
use Rattle.words.proofs.Keys.{most_of}
use Rattle.words.specs.Rows.{Row, rows, row_at, row_count}
use Rattle.syntax.specs.Digits.{spelled, digit}
use Rattle.syntax.specs.Pieces.{Class, pattern, apart, width_in, once}
use Rattle.syntax.specs.Operands.{Style}
use Rattle.syntax.specs.Styles.{styles, style_at}
use Rattle.syntax.specs.Forms.{number_text, flag_text, pieces_of, Form, form, numbered, flagged, numbers_of, flags_of, forms_of, forms_from, forms}

abbrev pub pattern_of : Form → List Class
pattern_of f = pattern (pieces_of f)

abbrev apart_from : List Class → List (List Class) → Bool
apart_from p [] = true
apart_from p (q ∷ qs) = apart p q && apart_from p qs

abbrev pub all_apart : List (List Class) → Bool
all_apart [] = true
all_apart (p ∷ ps) = apart_from p ps && all_apart ps

abbrev pub In : Form → List Form → Type 0
In f [] = ⊥
In f (x ∷ xs) = (f ≡ x) ⊎ In f xs

apart_in : (p : List Class) (fs : List Form) (f : Form) → T (apart_from p (column pattern_of fs)) → In f fs → T (apart p (pattern_of f))
apart_in p [] f t m = absurd m
apart_in p (x ∷ fs) f t (inl e) = rw e (and_left (apart p (pattern_of x)) (apart_from p (column pattern_of fs)) t)
apart_in p (x ∷ fs) f t (inr m) = apart_in p fs f (and_right (apart p (pattern_of x)) (apart_from p (column pattern_of fs)) t) m

pub head_apart : (x : Form) (fs : List Form) (f : Form) → T (all_apart (column pattern_of (x ∷ fs))) → In f fs → T (apart (pattern_of x) (pattern_of f))
head_apart x fs f t m = apart_in (pattern_of x) fs f (and_left (apart_from (pattern_of x) (column pattern_of fs)) (all_apart (column pattern_of fs)) t) m

pub tail_apart : (x : Form) (fs : List Form) → T (all_apart (column pattern_of (x ∷ fs))) → T (all_apart (column pattern_of fs))
tail_apart x fs t = and_right (apart_from (pattern_of x) (column pattern_of fs)) (all_apart (column pattern_of fs)) t

-- no two forms claim one line
pub forms_apart : T (all_apart (column pattern_of forms))
unfolding forms forms_of pieces_of numbers_of flags_of number_text flag_text rows row_at styles style_at pick spelled digit
forms_apart = tt

-- each line of the table of texts names its row
pub rows_named : column (λ (s : Style). s.base) styles ≡ column (λ (r : Row). r.base) rows
unfolding styles rows
rows_named = refl

pub forms_many : length forms ≡ 186
unfolding forms forms_of numbers_of flags_of rows row_at pick
forms_many = refl

-- each part is shown in digits wide enough for its limit; one that the row does not use, in none

abbrev pub wide : Form → Test
wide f =
    let r = row_at f.row in
    let p = pieces_of f in
    most (most_of r.destination) (16 ^ width_in p DESTINATION) and
    most (most_of r.source) (16 ^ width_in p SOURCE) and
    most (most_of r.value) (16 ^ width_in p VALUE)

abbrev pub all_of : (Form → Bool) → List Form → Bool
all_of t [] = true
all_of t (f ∷ fs) = t f && all_of t fs

pub all_in : (t : Form → Bool) (fs : List Form) (f : Form) → T (all_of t fs) → In f fs → T (t f)
all_in t [] f h m = absurd m
all_in t (x ∷ fs) f h (inl e) = rw e (and_left (t x) (all_of t fs) h)
all_in t (x ∷ fs) f h (inr m) = all_in t fs f (and_right (t x) (all_of t fs) h) m

pub forms_wide : T (all_of (λ f. test (wide f)) forms)
unfolding forms forms_of pieces_of numbers_of flags_of number_text flag_text rows row_at styles style_at pick spelled digit most_of
forms_wide = tt

-- and exactly the parts that the row uses are shown, each once

abbrev shown_as : Part → ℕ → Bool
shown_as holds width = beq (is holds unused) (eqb width 0)

abbrev exact : Form → Bool
exact f =
    let r = row_at f.row in
    let p = pieces_of f in
    once p &&
    (shown_as r.destination (width_in p DESTINATION) && (shown_as r.source (width_in p SOURCE) && shown_as r.value (width_in p VALUE)))

pub forms_exact : T (all_of exact forms)
unfolding forms forms_of pieces_of numbers_of flags_of number_text flag_text rows row_at styles style_at pick spelled digit
forms_exact = tt

-- the form of a row, a bit 26 and a byte number is one of them

in_left : (f : Form) (xs ys : List Form) → In f xs → In f (xs ++ ys)
in_left f [] ys m = absurd m
in_left f (x ∷ xs) ys (inl e) = inl e
in_left f (x ∷ xs) ys (inr m) = inr (in_left f xs ys m)

in_right : (f : Form) (xs ys : List Form) → In f ys → In f (xs ++ ys)
in_right f [] ys m = m
in_right f (x ∷ xs) ys m = inr (in_right f xs ys m)

in-numbered : (n b k m j : ℕ) → j < m → In (form n b (k + j)) (numbered n b k m)
in-numbered n b k zero j h = absurd (not-suc-le-zero h)
in-numbered n b k (suc m) zero h = inl (rw add-zero)
in-numbered n b k (suc m) (suc j) h =
    let e : suc k + j ≡ k + suc j = omega arith in
    inr (subst (λ (x : ℕ). In (form n b x) (numbered n b (suc k) m)) e (in-numbered n b (suc k) m j (le_of_suc-le-suc h)))

in-flagged : (n b m l j k : ℕ) → j < l → k < m → In (form n (b + j) k) (flagged n b m l)
in-flagged n b m zero j k h q = absurd (not-suc-le-zero h)
in-flagged n b m (suc l) zero k h q =
    in_left (form n (b + 0) k) (numbered n b 0 m) (flagged n (suc b) m l) (rw add-zero (rw zero-add at (in-numbered n b 0 m k q)))
in-flagged n b m (suc l) (suc j) k h q =
    in_right (form n (b + suc j) k) (numbered n b 0 m) (flagged n (suc b) m l)
    (rw (add-suc, ← suc-add) (in-flagged n (suc b) m l j k (le_of_suc-le-suc h) q))

in-from : (n m j : ℕ) (f : Form) → j < m → In f (forms_of (n + j)) → In f (forms_from n m)
in-from n zero j f h q = absurd (not-suc-le-zero h)
in-from n (suc m) zero f h q = in_left f (forms_of n) (forms_from (suc n) m) (rw add-zero at q)
in-from n (suc m) (suc j) f h q =
    in_right f (forms_of n) (forms_from (suc n) m) (in-from (suc n) m j f (le_of_suc-le-suc h) (rw (add-suc, ← suc-add) at q))

pub in-forms : (n b k : ℕ) → n < row_count → ((row_at n).option ≡ never → ⊥) → b < flags_of (row_at n).flag → k < numbers_of (row_at n).number →
    In (form n b k) forms
unfolding forms forms_of pick
in-forms n b k hn ho hb hk =
    in-from 0 row_count n (form n b k) hn
    (rw (zero-add n, is_false (needs (row_at n).option never) (λ t. ho (decided_yes (Option-discrete (row_at n).option never) t)))
    (rw zero-add at (in-flagged n 0 (numbers_of (row_at n).number) (flags_of (row_at n).flag) b k hb hk)))
