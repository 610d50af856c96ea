-- What the code computes from its table is what the forms say.
-- Assumes nothing.
use Prim.Native.Nat.{ℕ, zero, suc, ◌+◌, ◌-◌, ◌*◌, ◌<◌, ◌≤◌}
use mathlib.Core.Bool.{Bool, true, false, not, ◌&&◌, ◌||◌}
use mathlib.Core.Path.{◌≡◌, refl, ap, sym, ◌∙◌}
use mathlib.Core.Logic.{◌⊎◌, inl, inr}
use mathlib.Core.List.{List, [], ◌∷◌}
use native.Mathlib.Nat.{le_of_suc-le-suc, not-suc-le-zero}
use native.Mathlib.Omega.{arith}
use borrow.Author.Tests.{eqb-true, eqb-false}
use lib.Dec.{T, eqb, leb, leb→le, eqb→eq, eqb_refl, T_not}
use lib.ListN.{length, get_or, take, drop, length-append, get_or-append, get_or-eq_default}
use lib.Seq.{slice, length-slice, get_or-append-add, get_or-drop, get_or-take}
use Rattle.laws.specs.Choice.{pick}
use Rattle.laws.specs.Test.{Test, most, ◌and◌, test, Holds, holds, and_left, and_right, and_both, or_cases, or_left, or_right}
use Rattle.laws.specs.Table.{every, at_every}
use Rattle.laws.specs.Lists.{column}
use Rattle.words.specs.Frames.{DESTINATION, SOURCE, VALUE}
use Rattle.words.specs.Rows.{rows, row_at}
use Rattle.syntax.specs.Digits.{spelled, digit}
use Rattle.syntax.specs.Pieces.{number_in, width_in, place_in, Class, byte, pattern, is_hex, once}
use Rattle.syntax.specs.Pieces.Class.{digit as any}
use Rattle.syntax.specs.Styles.{styles, style_at}
use Rattle.syntax.specs.Forms.{number_text, flag_text, pieces_of, Form, form, numbers_of, flags_of, forms_of, forms}
use Rattle.syntax.specs.Reading.{reading, is_form}
use Rattle.syntax.proofs.Pieces.{Fitting}
use Rattle.syntax.proofs.Table.{pattern_of, forms_many}
use Rattle.syntax.proofs.Reading.{form_at}
use Rattle.syntax.proofs.Places.{read_place, fits_form, form_fits}
use Rattle.assembler.proofs.bytes.Laws.{part_line}
use Rattle.assembler.specs.Packed.{codes, pad, entry_of, joined, form_table, admits, matching, Padded, is_form_in, Shown, part_in, read_in}

-- the table, entry by entry

length_pad : (n : ℕ) (l : List ℕ) → length (pad n l) ≡ n
length_pad zero l = refl
length_pad (suc n) [] = ap suc (length_pad n [])
length_pad (suc n) (x ∷ l) = ap suc (length_pad n l)

pad_at : (n : ℕ) (l : List ℕ) (j : ℕ) → j < n → get_or (pad n l) j 0 ≡ get_or l j 0
pad_at zero l j h = absurd (not-suc-le-zero h)
pad_at (suc n) [] zero h = refl
pad_at (suc n) [] (suc j) h = pad_at n [] j (le_of_suc-le-suc h)
pad_at (suc n) (x ∷ l) zero h = refl
pad_at (suc n) (x ∷ l) (suc j) h = pad_at n l j (le_of_suc-le-suc h)

length_entry : (f : Form) → length (entry_of f) ≡ 32
unfolding entry_of
length_entry f = rw (length-append, length_pad 16 (codes (pattern (pieces_of f))))

table_from : (fs : List Form) (q k : ℕ) → q < length fs → k < 32 → get_or (joined (column entry_of fs)) (32 * q + k) 0 ≡ get_or (entry_of (get_or fs q (form 0 0 0))) k 0
table_from [] q k h i = absurd (not-suc-le-zero h)
table_from (x ∷ fs) zero k h i =
    let e : 32 * 0 + k ≡ k = omega arith in
    rw e (get_or-append (entry_of x) (joined (column entry_of fs)) 0 k (omega (arith, length_entry x)))
table_from (x ∷ fs) (suc q) k h i =
    let e : 32 * suc q + k ≡ length (entry_of x) + (32 * q + k) = omega (arith, length_entry x) in
    rw (e, get_or-append-add) (table_from fs q k (le_of_suc-le-suc h) i)

table_at : (q k : ℕ) → q < 186 → k < 32 → get_or form_table (32 * q + k) 0 ≡ get_or (entry_of (form_at q)) k 0
unfolding form_table
table_at q k h i = table_from forms q k (rw forms_many h) i

entry_front : (f : Form) (k : ℕ) → k < 16 → get_or (entry_of f) k 0 ≡ get_or (codes (pattern_of f)) k 0
unfolding entry_of
entry_front f k h =
    let p = codes (pattern_of f) in
    get_or-append (pad 16 p) _ 0 k (omega (arith, length_pad 16 p)) ∙ pad_at 16 p k h

-- what is behind the pattern: k counts from 16 on
entry_back : (f : Form) (k : ℕ) →
    get_or (entry_of f) (16 + k) 0 ≡
    get_or (length (codes (pattern_of f)) ∷ f.row ∷ f.flag ∷ f.number ∷
    place_in (pieces_of f) DESTINATION ∷ width_in (pieces_of f) DESTINATION ∷ place_in (pieces_of f) SOURCE ∷ width_in (pieces_of f) SOURCE ∷
    place_in (pieces_of f) VALUE ∷ width_in (pieces_of f) VALUE ∷ 0 ∷ 0 ∷ 0 ∷ 0 ∷ 0 ∷ 0 ∷ []) k 0
unfolding entry_of
entry_back f k =
    let p = codes (pattern_of f) in
    let e : 16 + k ≡ length (pad 16 p) + k = omega (arith, length_pad 16 p) in
    rw e (get_or-append-add (pad 16 p) _ k 0)

behind : (q k : ℕ) → q < 186 → k < 16 →
    get_or form_table (32 * q + (16 + k)) 0 ≡
    get_or (length (codes (pattern_of (form_at q))) ∷ (form_at q).row ∷ (form_at q).flag ∷ (form_at q).number ∷
    place_in (pieces_of (form_at q)) DESTINATION ∷ width_in (pieces_of (form_at q)) DESTINATION ∷ place_in (pieces_of (form_at q)) SOURCE ∷ width_in (pieces_of (form_at q)) SOURCE ∷
    place_in (pieces_of (form_at q)) VALUE ∷ width_in (pieces_of (form_at q)) VALUE ∷ 0 ∷ 0 ∷ 0 ∷ 0 ∷ 0 ∷ 0 ∷ []) k 0
behind q k h i = table_at q (16 + k) h (omega arith) ∙ entry_back (form_at q) k

-- a line in a text

pub record Line-at (l t : List ℕ) (at n : ℕ) : Type 0 where
  pub long : length l ≡ n
  pub each : (j : ℕ) → j < n → get_or l j 0 ≡ get_or t (at + j) 0

pub line_at : (t : List ℕ) (at n : ℕ) → at + n ≤ length t → Line-at (slice at (at + n) t) t at n
line_at t at n h =
    record {
      long = length-slice at (at + n) t h ∙ omega arith;
      each = λ j k. get_or-drop at (take (at + n) t) j 0 ∙ get_or-take (at + n) t (at + j) 0 (omega arith);
    }

-- the line as code takes it out of the text
pub line_part : (t : List ℕ) (at n : ℕ) → at + n ≤ length t → take (at + n - at) (drop at t) ≡ slice at (at + n) t
line_part t at n h = part_line t at (at + n) (omega arith) h

-- digits of a line, read in the text
number_in_lem : (l t : List ℕ) (at n p w : ℕ) → Line-at l t at n → p + w ≤ n → number_in w (drop p (drop at t)) ≡ number_in w (drop p l)
number_in_lem l t at n p zero i h = refl
number_in_lem l t at n p (suc w) i h =
    let e : at + (p + w) ≡ at + (p + w) = refl in
    rw (
      number_in_lem l t at n p w i (omega arith),
      get_or-drop p l w 0,
      i.each (p + w) (omega arith),
      get_or-drop p (drop at t) w 0,
      get_or-drop at t (p + w) 0,
    )

-- each form: its pattern has bytes that stand for themselves only, is at most 16 long, shows each part once and within its length, in at most 7 digits, and has no
-- digit among its first four bytes

abbrev pub plain : List Class → Bool
plain [] = true
plain (byte x ∷ k) = not (eqb x 97) && (not (eqb x 0) && plain k)
plain (any ∷ k) = plain k

abbrev pub early : ℕ → List Class → Bool
early zero k = true
early (suc n) [] = true
early (suc n) (byte x ∷ k) = early n k
early (suc n) (any ∷ k) = false

abbrev shown_within : Form → Test
shown_within f =
    let p = pieces_of f in
    let n = length (codes (pattern_of f)) in
    (most (place_in p DESTINATION + width_in p DESTINATION) n and most (width_in p DESTINATION) 7) and
    (most (place_in p SOURCE + width_in p SOURCE) n and most (width_in p SOURCE) 7) and
    (most (place_in p VALUE + width_in p VALUE) n and most (width_in p VALUE) 7)

abbrev sound : Form → Bool
sound f = let k = pattern_of f in plain k && (leb (length (codes k)) 16 && (once (pieces_of f) && (early 4 k && test (shown_within f))))

all_sound : T (every 186 (λ q. sound (form_at q)))
unfolding forms forms_of pieces_of numbers_of flags_of number_text flag_text rows row_at styles style_at pick spelled digit
all_sound = tt

pub record Sound (f : Form) : Type 0 where
  pub is_plain : T (plain (pattern_of f))
  pub is_short : length (codes (pattern_of f)) ≤ 16
  pub is_once : T (once (pieces_of f))
  pub is_early : T (early 4 (pattern_of f))
  pub is_within : Holds (shown_within f)

sounded : (f : Form) → T (sound f) → Sound f
sounded f s =
    let k = pattern_of f in
    let a = leb (length (codes k)) 16 in
    let b = once (pieces_of f) in
    let c = early 4 k in
    let d = test (shown_within f) in
    let s1 = and_right (plain k) (a && (b && (c && d))) s in
    let s2 = and_right a (b && (c && d)) s1 in
    let s3 = and_right b (c && d) s2 in
    record {
      is_plain = and_left (plain k) (a && (b && (c && d))) s;
      is_short = leb→le (length (codes k)) 16 (and_left a (b && (c && d)) s1);
      is_once = and_left b (c && d) s2;
      is_early = and_left c d s3;
      is_within = holds (shown_within f) (and_right c d s3);
    }

pub sound_at : (q : ℕ) → q < 186 → Sound (form_at q)
sound_at q h = sounded (form_at q) (at_every 186 (λ q. sound (form_at q)) q all_sound h)

-- what the table holds of form q

shift : (q a b : ℕ) → 32 * q + a + b ≡ 32 * q + (a + b)
shift q a b = omega arith

abbrev pub length_of : ℕ → ℕ
length_of q = length (codes (pattern_of (form_at q)))

pub table_length_at : (q : ℕ) → q < 186 → get_or form_table (32 * q + 16) 0 ≡ length_of q
table_length_at q h = behind q 0 h (omega arith)

pub parts_shown : (q at n : ℕ) → q < 186 → at + length_of q ≤ n →
    Shown form_table (32 * q + 20) at n × Shown form_table (32 * q + 22) at n × Shown form_table (32 * q + 24) at n
parts_shown q at n h k =
    let w = (sound_at q h).is_within in
    let w0 = w.0.0 in
    let w1 = w.1.0.0 in
    let w2 = w.1.1.0 in
    rw (
      shift q 20 1,
      shift q 22 1,
      shift q 24 1,
      behind q 4 h (omega arith),
      behind q 5 h (omega arith),
      behind q 6 h (omega arith),
      behind q 7 h (omega arith),
      behind q 8 h (omega arith),
      behind q 9 h (omega arith),
    )
    ((omega arith, w.0.1), (omega arith, w.1.0.1), (omega arith, w.1.1.1))

pub read_in_lem : (q : ℕ) (l t : List ℕ) (at : ℕ) → q < 186 → Line-at l t at (length_of q) → read_in form_table q (drop at t) ≡ reading (form_at q) l
unfolding read_in part_in reading
read_in_lem q l t at h i =
    let f = pieces_of (form_at q) in
    let n = length_of q in
    let w = (sound_at q h).is_within in
    let r1 : get_or form_table (32 * q + 17) 0 ≡ (form_at q).row = behind q 1 h (omega arith) in
    let r2 : get_or form_table (32 * q + 18) 0 ≡ (form_at q).flag = behind q 2 h (omega arith) in
    let r3 : get_or form_table (32 * q + 19) 0 ≡ (form_at q).number = behind q 3 h (omega arith) in
    let r4 : get_or form_table (32 * q + 20) 0 ≡ place_in f DESTINATION = behind q 4 h (omega arith) in
    let r5 : get_or form_table (32 * q + 20 + 1) 0 ≡ width_in f DESTINATION = rw (shift q 20 1) (behind q 5 h (omega arith)) in
    let r6 : get_or form_table (32 * q + 22) 0 ≡ place_in f SOURCE = behind q 6 h (omega arith) in
    let r7 : get_or form_table (32 * q + 22 + 1) 0 ≡ width_in f SOURCE = rw (shift q 22 1) (behind q 7 h (omega arith)) in
    let r8 : get_or form_table (32 * q + 24) 0 ≡ place_in f VALUE = behind q 8 h (omega arith) in
    let r9 : get_or form_table (32 * q + 24 + 1) 0 ≡ width_in f VALUE = rw (shift q 24 1) (behind q 9 h (omega arith)) in
    let d = number_in_lem l t at n (place_in f DESTINATION) (width_in f DESTINATION) i w.0.0 in
    let s = number_in_lem l t at n (place_in f SOURCE) (width_in f SOURCE) i w.1.0.0 in
    let v = number_in_lem l t at n (place_in f VALUE) (width_in f VALUE) i w.1.1.0 in
    rw (r1, r2, r3, r4, r5, r6, r7, r8, r9, d, s, v, ← read_place f DESTINATION l, ← read_place f SOURCE l, ← read_place f VALUE l)

-- the code's test of a pattern

matching_each : (n : ℕ) (t : List ℕ) (from : ℕ) (x : List ℕ) (at : ℕ) → T (matching n t from x at) → (j : ℕ) → j < n → T (admits (get_or t (from + j) 0) (get_or x (at + j) 0))
matching_each zero t from x at m j h = absurd (not-suc-le-zero h)
matching_each (suc n) t from x at m j h =
    go (eqb j n) refl (matching_each n t from x at (and_left (matching n t from x at) (admits (get_or t (from + n) 0) (get_or x (at + n) 0)) m) j)
  where
    go : (b : Bool) → eqb j n ≡ b → (j < n → T (admits (get_or t (from + j) 0) (get_or x (at + j) 0))) → T (admits (get_or t (from + j) 0) (get_or x (at + j) 0))
    go true e k = rw (eqb-true j n e) (and_right (matching n t from x at) (admits (get_or t (from + n) 0) (get_or x (at + n) 0)) m)
    go false e k = k (let d = eqb-false j n e in omega arith)

each_matching : (n : ℕ) (t : List ℕ) (from : ℕ) (x : List ℕ) (at : ℕ) → ((j : ℕ) → j < n → T (admits (get_or t (from + j) 0) (get_or x (at + j) 0))) → T (matching n t from x at)
each_matching zero t from x at f = tt
each_matching (suc n) t from x at f =
    and_both (matching n t from x at) (admits (get_or t (from + n) 0) (get_or x (at + n) 0)) (each_matching n t from x at (λ j h. f j (omega arith))) (f n (omega arith))

admit_byte : (a b : ℕ) → T (not (eqb a 97)) → T (not (eqb a 0)) → T (admits a b) → T (eqb a b)
unfolding admits
admit_byte a b p q t = go (or_cases (eqb a b || (eqb a 97 && is_hex b)) (eqb a 0) t)
  where
    inner : T (eqb a b) ⊎ T (eqb a 97 && is_hex b) → T (eqb a b)
    inner (inl u) = u
    inner (inr u) = absurd (T_not (eqb a 97) p (and_left (eqb a 97) (is_hex b) u))

    go : T (eqb a b || (eqb a 97 && is_hex b)) ⊎ T (eqb a 0) → T (eqb a b)
    go (inl u) = inner (or_cases (eqb a b) (eqb a 97 && is_hex b) u)
    go (inr u) = absurd (T_not (eqb a 0) q u)

admit_any : (b : ℕ) → T (admits 97 b) → T (is_hex b)
unfolding admits
admit_any b t = go (or_cases (eqb 97 b || is_hex b) false t)
  where
    inner : T (eqb 97 b) ⊎ T (is_hex b) → T (is_hex b)
    inner (inl u) = rw (← eqb→eq 97 b u) tt
    inner (inr u) = u

    go : T (eqb 97 b || is_hex b) ⊎ T false → T (is_hex b)
    go (inl u) = inner (or_cases (eqb 97 b) (is_hex b) u)
    go (inr u) = absurd u

byte_admits : (a b : ℕ) → T (eqb a b) → T (admits a b)
unfolding admits
byte_admits a b t = or_left (eqb a b || (eqb a 97 && is_hex b)) (eqb a 0) (or_left (eqb a b) (eqb a 97 && is_hex b) t)

any_admits : (b : ℕ) → T (is_hex b) → T (admits 97 b)
unfolding admits
any_admits b t = or_left (eqb 97 b || is_hex b) false (or_right (eqb 97 b) (is_hex b) t)

pub fits_length : (k : List Class) (l : List ℕ) → Fitting k l → length (codes k) ≡ length l
fits_length [] [] h = refl
fits_length [] (b ∷ l) h = absurd h
fits_length (x ∷ k) [] h = absurd h
fits_length (byte a ∷ k) (b ∷ l) h = ap suc (fits_length k l h.1)
fits_length (any ∷ k) (b ∷ l) h = ap suc (fits_length k l h.1)

fits_admits : (k : List Class) (l : List ℕ) → Fitting k l → (j : ℕ) → j < length l → T (admits (get_or (codes k) j 0) (get_or l j 0))
fits_admits [] [] h j i = absurd (not-suc-le-zero i)
fits_admits [] (b ∷ l) h j i = absurd h
fits_admits (x ∷ k) [] h j i = absurd h
fits_admits (byte a ∷ k) (b ∷ l) h zero i = byte_admits a b h.0
fits_admits (any ∷ k) (b ∷ l) h zero i = any_admits b h.0
fits_admits (byte a ∷ k) (b ∷ l) h (suc j) i = fits_admits k l h.1 j (le_of_suc-le-suc i)
fits_admits (any ∷ k) (b ∷ l) h (suc j) i = fits_admits k l h.1 j (le_of_suc-le-suc i)

admits_fits : (k : List Class) (l : List ℕ) → T (plain k) → length (codes k) ≡ length l →
    ((j : ℕ) → j < length l → T (admits (get_or (codes k) j 0) (get_or l j 0))) → Fitting k l
admits_fits [] [] p e f = tt
admits_fits [] (b ∷ l) p e f = absurd (omega arith)
admits_fits (byte a ∷ k) [] p e f = absurd (omega arith)
admits_fits (any ∷ k) [] p e f = absurd (omega arith)
admits_fits (byte a ∷ k) (b ∷ l) p e f =
    let p2 = and_right (not (eqb a 97)) (not (eqb a 0) && plain k) p in (
      admit_byte a b (and_left (not (eqb a 97)) (not (eqb a 0) && plain k) p) (and_left (not (eqb a 0)) (plain k) p2) (f 0 (omega arith)),
      admits_fits k l (and_right (not (eqb a 0)) (plain k) p2) (omega arith) (λ j h. f (suc j) (omega arith)),
    )
admits_fits (any ∷ k) (b ∷ l) p e f =
    (admit_any b (f 0 (omega arith)), admits_fits k l p (omega arith) (λ j h. f (suc j) (omega arith)))

-- the code's test of a form is the form's

front : (q j : ℕ) → q < 186 → j < 16 → get_or form_table (32 * q + j) 0 ≡ get_or (codes (pattern_of (form_at q))) j 0
front q j h i = table_at q j h (omega arith) ∙ entry_front (form_at q) j i

pub padded : (q n : ℕ) → q < 186 → get_or form_table (32 * q + 16) 0 ≡ n → Padded form_table (32 * q) n
padded q n h e j i k =
    front q j h k ∙ get_or-eq_default (codes (pattern_of (form_at q))) 0 (let s = table_length_at q h in omega (arith, s))

pub in-form : (q : ℕ) (l t : List ℕ) (at n : ℕ) → q < 186 → Line-at l t at n → T (is_form_in form_table q t at n) → T (is_form (form_at q) l) × (n ≡ length_of q)
unfolding is_form_in
in-form q l t at n h i u =
    let f = form_at q in
    let s = sound_at q h in
    let e = table_length_at q h in
    let m : get_or form_table (32 * q + 16) 0 ≡ n = eqb→eq (get_or form_table (32 * q + 16) 0) n (and_left (eqb (get_or form_table (32 * q + 16) 0) n) (matching n form_table (32 * q) t at) u) in
    let g = matching_each n form_table (32 * q) t at (and_right (eqb (get_or form_table (32 * q + 16) 0) n) (matching n form_table (32 * q) t at) u) in
    let c : length (codes (pattern_of f)) ≡ length l = sym e ∙ m ∙ sym i.long in (
      fits_form f l s.is_once
          (admits_fits (pattern_of f) l s.is_plain c
          (λ j k. rw (front q j h (let b = s.is_short in omega arith), ← i.each j (rw i.long at k)) at (g j (rw i.long at k)))),
      sym m ∙ e,
    )

pub form_in : (q : ℕ) (l t : List ℕ) (at n : ℕ) → q < 186 → Line-at l t at n → T (is_form (form_at q) l) → T (is_form_in form_table q t at n)
unfolding is_form_in
form_in q l t at n h i u =
    let f = form_at q in
    let s = sound_at q h in
    let e = table_length_at q h in
    let g = form_fits f l u in
    let c = fits_length (pattern_of f) l g in
    let m : get_or form_table (32 * q + 16) 0 ≡ n = e ∙ c ∙ i.long in
    and_both (eqb (get_or form_table (32 * q + 16) 0) n) (matching n form_table (32 * q) t at)
    (rw m (eqb_refl n))
    (each_matching n form_table (32 * q) t at
    (λ j k. rw (front q j h (let b = s.is_short in omega (arith, c, i.long)), ← i.each j k) (fits_admits (pattern_of f) l g j (rw i.long k))))
