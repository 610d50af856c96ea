-- Labels mean addresses (specs/Claims.antt, LabelsMean).
-- Assumes nothing.
use Prim.Native.Nat.{ℕ, zero, suc, ◌<◌}
use mathlib.Core.Bool.{Bool, true, false, not, ◌&&◌, ◌||◌}
use mathlib.Core.Path.{◌≡◌, refl, ap, sym, subst, ◌∙◌}
use mathlib.Core.Logic.{◌⊎◌, inl, inr}
use mathlib.Core.List.{List, [], ◌∷◌, ◌++◌, append_assoc}
use native.Mathlib.Omega.{arith}
use borrow.Author.Tests.{eqb-true, eqb-false, ne_eqb, leb-true, leb-false}
use lib.Dec.{T, eqb, leb, eqb→eq, eqb_refl, T_not}
use lib.ListN.{length, take, drop, drop_of_length-le}
use Rattle.laws.specs.Choice.{pick, is_true}
use Rattle.laws.specs.Test.{and_left, and_right, or_cases}
use Rattle.words.specs.declared.Instruction.{Instruction}
use Rattle.words.specs.Rows.{rows, row_at}
use Rattle.syntax.specs.Digits.{spelled, digit, hex}
use Rattle.syntax.specs.Pieces.{Class, byte, digits, pattern, read, width_in, place_in, once}
use Rattle.syntax.specs.Pieces.Class.{digit as any}
use Rattle.syntax.proofs.Pieces.{Fitting, number_back, digits_fit, fit_digits}
use Rattle.words.specs.Frames.{Column, DESTINATION, SOURCE, VALUE}
use Rattle.syntax.specs.Styles.{styles, style_at}
use Rattle.syntax.specs.Forms.{number_text, flag_text, pieces_of, Form, form_of, numbers_of, flags_of, forms_of, forms}
use Rattle.syntax.specs.Reading.{reading, found, read_line}
use Rattle.syntax.specs.Lines.{letters_of, beyond, is_label}
use Rattle.syntax.specs.Labels.{name_length, operands_of, target_of, with_address, set_target}
use Rattle.syntax.specs.Claims.{LabelsMean}
use Rattle.syntax.proofs.Table.{pattern_of, all_of, all_in}
use Rattle.syntax.proofs.Reading.{own_print, ReadBy, read_by}
use Rattle.syntax.proofs.Places.{read_place, form_fits, fits_form}

-- what stands behind a pattern's first space, and where that is

abbrev behind : List Class → List Class
behind [] = []
behind (byte a ∷ k) = pick (eqb a 32) k (behind k)
behind (any ∷ k) = behind k

abbrev space_at : List Class → ℕ
space_at [] = 0
space_at (byte a ∷ k) = pick (eqb a 32) 0 (suc (space_at k))
space_at (any ∷ k) = suc (space_at k)

abbrev spaceless : List ℕ → Bool
spaceless [] = true
spaceless (b ∷ l) = not (eqb b 32) && spaceless l

record Split (k : List Class) (u m : List ℕ) : Type 0 where
  rest : Fitting (behind k) m
  place : space_at k ≡ length u
  other : (n : ℕ) → (x : List ℕ) → length x ≡ n → Fitting (behind k) x → Fitting k (u ++ (32 ∷ x))

split : (k : List Class) (u m : List ℕ) → T (spaceless u) → Fitting k (u ++ (32 ∷ m)) → Split k u m
unfolding pick
split [] [] m s h = absurd h
split [] (b ∷ u) m s h = absurd h
split (any ∷ k) [] m s h = absurd h.0
split (byte a ∷ k) [] m s h =
    let e : eqb a 32 ≡ true = is_true (eqb a 32) h.0 in
    record {
      rest = rw e h.1;
      place = rw e;
      other = λ n x l f. (h.0, rw e at f);
    }
split (any ∷ k) (b ∷ u) m s h =
    let r = split k u m (and_right (not (eqb b 32)) (spaceless u) s) h.1 in
    record { rest = r.rest; place = ap suc r.place; other = λ n x l f. (h.0, r.other n x l f) }
split (byte a ∷ k) (b ∷ u) m s h =
    let r = split k u m (and_right (not (eqb b 32)) (spaceless u) s) h.1 in
    let d : a ≡ 32 → ⊥ = λ e. T_not (eqb b 32) (and_left (not (eqb b 32)) (spaceless u) s) (rw (sym (eqb→eq a b h.0) ∙ e) (eqb_refl 32)) in
    let e : eqb a 32 ≡ false = ne_eqb a 32 d in
    record {
      rest = rw e r.rest;
      place = rw e (ap suc r.place);
      other = λ n x l f. (h.0, r.other n x l (rw e at f));
    }

-- a pattern that six zeros do not fit

abbrev barred : ℕ → List Class → Bool
barred zero k = false
barred (suc n) [] = true
barred (suc n) (byte a ∷ k) = not (eqb a 48) || barred n k
barred (suc n) (any ∷ k) = barred n k

abbrev zeros : ℕ → List ℕ → List ℕ
zeros zero l = l
zeros (suc n) l = 48 ∷ zeros n l

not_barred : (n : ℕ) (k : List Class) (l : List ℕ) → T (barred n k) → Fitting k (zeros n l) → ⊥
not_barred zero k l b h = b
not_barred (suc n) [] l b h = h
not_barred (suc n) (byte a ∷ k) l b h = go (or_cases (not (eqb a 48)) (barred n k) b) (λ t. not_barred n k l t h.1)
  where
    go : T (not (eqb a 48)) ⊎ T (barred n k) → (T (barred n k) → ⊥) → ⊥
    go (inl t) f = T_not (eqb a 48) t h.0
    go (inr t) f = f t
not_barred (suc n) (any ∷ k) l b h = not_barred n k l b h.1

-- six digits, and what is behind them

abbrev six : ℕ → List Class → Bool
six zero k = true
six (suc n) [] = false
six (suc n) (byte a ∷ k) = false
six (suc n) (any ∷ k) = six n k

six_is : (n : ℕ) (k : List Class) → T (six n k) → k ≡ digits n (drop n k)
six_is zero k t = refl
six_is (suc n) [] t = absurd t
six_is (suc n) (byte a ∷ k) t = absurd t
six_is (suc n) (any ∷ k) t = ap (λ (x : List Class). any ∷ x) (six_is n k t)

-- the forms: a target stands alone, behind the first space

abbrev targeting : Form → Bool
targeting f =
    let p = pieces_of f in
    let k = pattern p in
    once p && (barred 6 (behind k) ||
    (six 6 (behind k) && ((eqb (width_in p VALUE) 6 && eqb (place_in p VALUE) (suc (space_at k))) && (eqb (width_in p DESTINATION) 0 && eqb (width_in p SOURCE) 0))))

all_target : T (all_of targeting forms)
unfolding forms forms_of pieces_of numbers_of flags_of number_text flag_text rows row_at styles style_at pick spelled digit
all_target = tt

-- the line up to its first space

abbrev Cut : ℕ → List ℕ → Type 0
Cut n l = (take (suc n) l ≡ take n l ++ (32 ∷ [])) × T (spaceless (take n l)) × (length (take n l) ≡ n)

cut_by : (d : Bool) (b : ℕ) (l : List ℕ) → eqb b 32 ≡ d → (name_length l < length l → Cut (name_length l) l) →
    pick d 0 (suc (name_length l)) < suc (length l) → Cut (pick d 0 (suc (name_length l))) (b ∷ l)
unfolding pick
cut_by true b l e f h = (rw (eqb-true b 32 e), tt, refl)
cut_by false b l e f h =
    let r = f (omega arith) in
    (ap (λ (x : List ℕ). b ∷ x) r.0, rw e r.1, ap suc r.2)

cut : (l : List ℕ) → name_length l < length l → Cut (name_length l) l
unfolding name_length
cut [] h = absurd (omega arith)
cut (b ∷ l) h = cut_by (eqb b 32) b l refl (cut l) h

no_letters_of : (l : List ℕ) → l ≡ [] → pick (is_label (letters_of l)) (letters_of l) [] ≡ []
unfolding letters_of is_label beyond pick
no_letters_of l e = rw e

named : (l : List ℕ) → eqb (length (target_of l)) 0 ≡ false → name_length l < length l
unfolding target_of operands_of
named l e = go (leb (length l) (name_length l)) refl
  where
    go : (b : Bool) → leb (length l) (name_length l) ≡ b → name_length l < length l
    go true q =
        absurd (eqb-false (length (target_of l)) 0 e
        (ap length (no_letters_of (drop (suc (name_length l)) l) (drop_of_length-le l {i = suc (name_length l)} (let k = leb-true (length l) (name_length l) q in omega arith)))))
    go false q = leb-false (length l) (name_length l) q

six_zeros : (l : List ℕ) → hex 6 0 ++ l ≡ zeros 6 l
unfolding spelled digit pick
six_zeros l = refl

six_gone : (l : List ℕ) → drop 6 (hex 6 0 ++ l) ≡ l
unfolding spelled
six_gone l = refl

drop_past : (u m : List ℕ) → drop (suc (length u)) (u ++ (32 ∷ m)) ≡ m
drop_past [] m = refl
drop_past (b ∷ u) m = drop_past u m

either : {A B : Type 0} {C : Type 0} → A ⊎ B → (A → C) → (B → C) → C
either (inl x) f g = f x
either (inr y) f g = g y

addressed : (x : ℕ) (l : List ℕ) → take (suc (name_length l)) l ≡ take (name_length l) l ++ (32 ∷ []) →
    with_address x l ≡ take (name_length l) l ++ (32 ∷ (hex 6 x ++ drop (length (target_of l)) (operands_of l)))
unfolding with_address
addressed x l e = rw e (append_assoc (take (name_length l) l) (32 ∷ []) (hex 6 x ++ drop (length (target_of l)) (operands_of l)))

-- a part that is not shown is read as 0
not_shown : (f : Form) (p : Column) (l : List ℕ) → T (eqb (width_in (pieces_of f) p) 0) → read (pieces_of f) p l ≡ 0
not_shown f p l t = read_place (pieces_of f) p l ∙ rw (eqb→eq (width_in (pieces_of f) p) 0 t)

-- the value, where it stands behind the first space
shown_six : (f : Form) (u post : List ℕ) (a : ℕ) → a < 0x1000000 → T (eqb (width_in (pieces_of f) VALUE) 6) →
    T (eqb (place_in (pieces_of f) VALUE) (suc (space_at (pattern_of f)))) → space_at (pattern_of f) ≡ length u →
    read (pieces_of f) VALUE (u ++ (32 ∷ (hex 6 a ++ post))) ≡ a
shown_six f u post a h w p e =
    let m = hex 6 a ++ post in
    let at : place_in (pieces_of f) VALUE ≡ suc (length u) = eqb→eq (place_in (pieces_of f) VALUE) (suc (space_at (pattern_of f))) p ∙ ap suc e in
    let dropped : drop (suc (length u)) (u ++ (32 ∷ m)) ≡ m = drop_past u m in
    read_place (pieces_of f) VALUE (u ++ (32 ∷ m)) ∙
    rw (eqb→eq (width_in (pieces_of f) VALUE) 6 w, at, dropped) (number_back 6 a post h)

module _ (i : Instruction) (a : ℕ) (u post l0 la : List ℕ) (r : ReadBy forms l0 i) (e0 : l0 ≡ u ++ (32 ∷ (hex 6 0 ++ post)))
    (ea : la ≡ u ++ (32 ∷ (hex 6 a ++ post))) (s : Split (pattern_of (form_of i)) u (hex 6 0 ++ post)) (h : a < 0x1000000) where
  aims : T (once (pieces_of (form_of i))) → T (six 6 (behind (pattern_of (form_of i)))) → T (eqb (width_in (pieces_of (form_of i)) VALUE) 6) →
      T (eqb (place_in (pieces_of (form_of i)) VALUE) (suc (space_at (pattern_of (form_of i))))) → T (eqb (width_in (pieces_of (form_of i)) DESTINATION) 0) →
      T (eqb (width_in (pieces_of (form_of i)) SOURCE) 0) → read_line la ≡ found (set_target i a)
  unfolding reading
  aims sd sx w p d b =
      let f = form_of i in
      let k = behind (pattern_of f) in
      let is = six_is 6 k sx in
      let rest = (digits_fit 6 (drop 6 k) (hex 6 0 ++ post) (subst (λ (x : List Class). Fitting x (hex 6 0 ++ post)) is s.rest)).2 in
      let fit = subst (λ (x : List Class). Fitting x (hex 6 a ++ post)) (sym is) (fit_digits 6 a (drop 6 k) post (rw (six_gone post) at rest)) in
      let all : Fitting (pattern_of f) la = rw ea (s.other (length (hex 6 a ++ post)) (hex 6 a ++ post) refl fit) in
      let own = fits_form f la sd all in
      let dest : read (pieces_of f) DESTINATION la ≡ i.destination = not_shown f DESTINATION la d ∙ sym (ap (λ (x : Instruction). x.destination) (sym r.same) ∙ not_shown f DESTINATION l0 d) in
      let src : read (pieces_of f) SOURCE la ≡ i.source = not_shown f SOURCE la b ∙ sym (ap (λ (x : Instruction). x.source) (sym r.same) ∙ not_shown f SOURCE l0 b) in
      let val : read (pieces_of f) VALUE la ≡ a = rw ea (shown_six f u post a h w p s.place) in
      own_print f la own r.one ∙ ap found (rw (dest, src, val))

  targets : T (targeting (form_of i)) → read_line la ≡ found (set_target i a)
  targets q =
      let f = form_of i in
      let p = pieces_of f in
      let k = behind (pattern_of f) in
      let w = eqb (width_in p VALUE) 6 in
      let pl = eqb (place_in p VALUE) (suc (space_at (pattern_of f))) in
      let d = eqb (width_in p DESTINATION) 0 in
      let b = eqb (width_in p SOURCE) 0 in
      let inner = six 6 k && ((w && pl) && (d && b)) in
      let sd = and_left (once p) (barred 6 k || inner) q in
      either (or_cases (barred 6 k) inner (and_right (once p) (barred 6 k || inner) q))
      (λ t. absurd (not_barred 6 k post t (rw (six_zeros post) at s.rest)))
      (λ t.
      let x = and_right (six 6 k) ((w && pl) && (d && b)) t in
      let y = and_left (w && pl) (d && b) x in
      let z = and_right (w && pl) (d && b) x in
      aims sd (and_left (six 6 k) ((w && pl) && (d && b)) t) (and_left w pl y) (and_right w pl y) (and_left d b z) (and_right d b z))

pub labels_mean : LabelsMean
labels_mean l a i t h e =
    let n = name_length l in
    let u = take n l in
    let post = drop (length (target_of l)) (operands_of l) in
    let c = cut l (named l t) in
    let whole : (x : ℕ) → with_address x l ≡ u ++ (32 ∷ (hex 6 x ++ post)) = λ x. addressed x l c.0 in
    let r = read_by (with_address 0 l) i e in
    let f = form_of i in
    let fit0 = form_fits f (with_address 0 l) r.own in
    let s = split (pattern_of f) u (hex 6 0 ++ post) c.1 (rw (whole 0) at fit0) in
    let q = all_in targeting forms f all_target r.one in
    targets i a u post (with_address 0 l) (with_address a l) r (whole 0) (whole a) s h q
