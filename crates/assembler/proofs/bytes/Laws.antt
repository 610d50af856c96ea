-- Laws of lines, names and letters, read byte by byte.
-- Assumes nothing.
use mathlib.Core.Path.{◌≡◌, refl, ap, sym, ◌∙◌}
use mathlib.Core.Bool.{Bool, true, false, not, cond}
use mathlib.Core.List.{List, [], ◌∷◌}
use Prim.Native.Nat.{ℕ, zero, suc, ◌+◌, ◌-◌, ◌*◌, ◌/◌, ◌%◌, ◌^◌, ◌<◌, ◌≤◌}
use native.Mathlib.Nat.{add-zero, zero-add, suc-add, pow-suc, pow-le-pow_right}
use native.Mathlib.Omega.{arith}
use borrow.Author.Tests.{ltb-false, eq-eqb, ne_eqb, le-leb, lt-leb, eqb-true, eqb-false, leb-true, leb-false}
use lib.Dec.{eqb, leb, ltb, leb-zero, leb-suc-suc}
use lib.ListN.{length, get_or, take, drop, length-drop}
use lib.Seq.{slice, length-take-le, take-add, drop_at, take-nil, get_or-drop}
use Rattle.std.specs.Int.{from_bool}
use Rattle.std.specs.List.{position_or_len, position}
use Rattle.std.specs.Option.{unwrap_or}
use Rattle.std.specs.Prelude.{Option, Some, None}
use Rattle.laws.specs.Choice.{pick}
use Rattle.syntax.specs.Lines.{onto, lines_of, is_small, letters_of}
use Rattle.syntax.specs.Labels.{name_length}
use lib.Count.{count_trailing_zeros}
use Rattle.assembler.specs.Bytes.{newlines_in, Skipped, Ended, byte_before, lines_from, LineEnd}

pub before_start : (l : List ℕ) (j : ℕ) → length l < j → 0 ≡ byte_before l j
unfolding byte_before pick
before_start l j h = rw (lt-leb j (length l) h)

pub before_end : (l : List ℕ) (j r : ℕ) → j ≤ length l → r ≡ get_or l (length l - j) 0 → r ≡ byte_before l j
unfolding byte_before pick
before_end l j r h e = rw (le-leb j (length l) h, e)

-- lines

-- nothing changes by a byte before
lines_later : (b : ℕ) (t : List ℕ) (n : ℕ) → lines_from t n ≡ lines_from (b ∷ t) (suc n)
unfolding lines_from
lines_later b t n = rw (leb-suc-suc n (length t))

-- where no newline stands among the first n bytes, and one behind them or nothing, these are the first line
first_line : (l : List ℕ) (n : ℕ) → n ≤ length l → ((k : ℕ) → k < n → get_or l k 0 ≡ 10 → ⊥) → (n < length l → get_or l n 0 ≡ 10) →
    lines_of l ≡ take n l ∷ lines_from l (suc n)
unfolding lines_of lines_from pick
first_line [] zero h f g = refl
first_line [] (suc n) h f g = absurd (omega arith)
first_line (b ∷ t) zero h f g = rw (eq-eqb b 10 (g (omega arith)), leb-suc-suc 0 (length t), leb-zero (length t))
first_line (b ∷ t) (suc n) h f g =
    rw (ne_eqb b 10 (f 0 (omega arith)))
    (ap (onto b) (first_line t n (omega arith) (λ k i. f (suc k) (omega arith)) (λ i. g (omega arith)))
    ∙ ap (λ (m : List (List ℕ)). (b ∷ take n t) ∷ m) (lines_later b t (suc n)))

slice_take : (l : List ℕ) (s r : ℕ) → slice s (s + r) l ≡ take r (drop s l)
slice_take l zero r = rw zero-add
slice_take [] (suc s) r = rw suc-add (sym (take-nil r))
slice_take (x ∷ l) (suc s) r = rw suc-add (slice_take l s r)

-- lines of the rest of a text are lines of the text
lines_rest : (text : List ℕ) (s n : ℕ) → s ≤ length text → lines_from (drop s text) n ≡ lines_from text (s + n)
lines_rest text zero n h = rw zero-add
lines_rest [] (suc s) n h = absurd (omega arith)
lines_rest (b ∷ t) (suc s) n h = lines_rest t s n (omega arith) ∙ (lines_later b t (s + n) ∙ rw suc-add)

pub lines_start : (text : List ℕ) → lines_from text 0 ≡ lines_of text
unfolding lines_from pick
lines_start text = rw (leb-zero (length text))

pub lines_past : (text : List ℕ) (s : ℕ) → length text < s → lines_from text s ≡ []
unfolding lines_from pick
lines_past text s h = rw (lt-leb s (length text) h)

pub lines_here : (text : List ℕ) (s : ℕ) → s ≤ length text → lines_from text s ≡ lines_of (drop s text)
unfolding lines_from pick
lines_here text s h = rw (le-leb s (length text) h)

-- the same from place s to r
pub line_ends : (text : List ℕ) (s r : ℕ) → s ≤ r → r ≤ length text → ((k : ℕ) → s ≤ k → k < r → get_or text k 0 ≡ 10 → ⊥) →
    (r < length text → get_or text r 0 ≡ 10) → LineEnd text s r
line_ends text s r h i f g =
    let e : s + (r - s) ≡ r = omega arith in
    let e' : s + suc (r - s) ≡ suc r = omega arith in
    let first =
    first_line
    (drop s text)
    (r - s)
    (rw length-drop (omega arith))
    (λ k j q. f (s + k) (omega arith) (omega arith) (rw get_or-drop at q))
    (λ j. rw (get_or-drop, e) (g (let w = rw length-drop at j in omega arith))) in
    record {
      forward = h;
      inside = i;
      parted = lines_here text s (omega arith) ∙ (first ∙ rw (← slice_take text s (r - s), e, lines_rest text s (suc (r - s)) (omega arith), e'));
    }

-- the first byte of a kind, or the end
first_or_end : (p : ℕ → Bool) (t : List ℕ) → unwrap_or (position p t) (length t) ≡ position_or_len p t
first_or_end p t = go (ltb (position_or_len p t) (length t)) refl
  where
    inside : (t : List ℕ) → position_or_len p t ≤ length t
    inside [] = omega arith
    inside (b ∷ t) = by (p b) (inside t)
      where
        by : (y : Bool) → position_or_len p t ≤ length t → cond (not y) (1 + position_or_len p t) 0 ≤ suc (length t)
        by true h = omega arith
        by false h = omega arith

    go : (y : Bool) → ltb (position_or_len p t) (length t) ≡ y → unwrap_or (cond y (Some (position_or_len p t)) None) (length t) ≡ position_or_len p t
    go true u = refl
    go false u = let h = ltb-false (position_or_len p t) (length t) u in let i = inside t in omega arith

-- names and letters end at the first byte that is none of them

name_to : (t : List ℕ) → position_or_len (λ b. eqb b 32) t ≡ name_length t
unfolding name_length pick
name_to [] = refl
name_to (b ∷ t) = go (eqb b 32) (name_to t)
  where
    go : (y : Bool) → position_or_len (λ b. eqb b 32) t ≡ name_length t →
        cond (not y) (1 + position_or_len (λ b. eqb b 32) t) 0 ≡ pick y 0 (suc (name_length t))
    go true e = refl
    go false e = rw e (omega arith)

pub name_is : (t : List ℕ) (r : Option ℕ) → r ≡ position (λ b. eqb b 32) t → unwrap_or r (length t) ≡ name_length t
name_is t r e = rw e (first_or_end (λ b. eqb b 32) t ∙ name_to t)

letters_to : (t : List ℕ) → take (position_or_len (λ b. not (is_small b)) t) t ≡ letters_of t
unfolding letters_of pick
letters_to [] = refl
letters_to (b ∷ t) = go (is_small b) (letters_to t)
  where
    one : (n : ℕ) → take (1 + n) (b ∷ t) ≡ b ∷ take n t
    one n = let e : 1 + n ≡ suc n = omega arith in rw e

    go : (y : Bool) → take (position_or_len (λ b. not (is_small b)) t) t ≡ letters_of t →
        take (cond (not (not y)) (1 + position_or_len (λ b. not (is_small b)) t) 0) (b ∷ t) ≡ pick y (b ∷ letters_of t) []
    go true e = one (position_or_len (λ b. not (is_small b)) t) ∙ ap (λ (l : List ℕ). b ∷ l) e
    go false e = refl

pub letters_are : (t : List ℕ) (r : Option ℕ) (end : ℕ) → r ≡ position (λ b. not (is_small b)) t → end ≡ unwrap_or r (length t) → take end t ≡ letters_of t
letters_are t r end e f =
    ap (λ (n : ℕ). take n t) (f ∙ ap (λ (r : Option ℕ). unwrap_or r (length t)) e ∙ first_or_end (λ b. not (is_small b)) t) ∙ letters_to t

-- a line as code takes it out of the text
pub part_line : (t : List ℕ) (s e : ℕ) → s ≤ e → e ≤ length t → take (e - s) (drop s t) ≡ slice s e t
part_line t s e h k =
    let q : s + (e - s) ≡ e = omega arith in
    sym (ap (λ (n : ℕ). drop s (take n t)) (sym q) ∙
    rw (take-add s (e - s) t, drop_at (take s t) (take (e - s) (drop s t)) s (length-take-le s t (omega arith))))

-- newlines of a block

bit_is : (b : Bool) → from_bool b ≡ pick {A = ℕ} b 1 0
unfolding pick
bit_is true = refl
bit_is false = refl

bit_small : (b : Bool) → pick {A = ℕ} b 1 0 ≤ 1
unfolding pick
bit_small true = omega arith
bit_small false = omega arith

newlines_small : (n : ℕ) (t : List ℕ) (s : ℕ) → newlines_in n t s < 2 ^ n
newlines_small zero t s = omega arith
newlines_small (suc n) t s =
    let h = newlines_small n t (suc s) in
    let b = bit_small (eqb (get_or t s 0) 10) in
    rw (pow-suc 2 n) (omega arith)

pub bit_few : (b : Bool) → from_bool b ≤ 1
bit_few b = rw bit_is (bit_small b)

pub newlines_few : (n : ℕ) (t : List ℕ) (s : ℕ) → n ≤ 16 → newlines_in n t s < 65536
newlines_few n t s h =
    let p = pow-le-pow_right {n = 2} (omega arith) {i = n} {j = 16} h in
    let q = newlines_small n t s in
    omega arith

pub newlines_more : (t : List ℕ) (s j m b : ℕ) → 0 < j → j ≤ 16 → m ≡ newlines_in (16 - j) t (s + j) → b ≡ from_bool (eqb (get_or t (s + (j - 1)) 0) 10) →
    2 * m + b ≡ newlines_in (16 - (j - 1)) t (s + (j - 1))
newlines_more t s j m b h k e f =
    let n : 16 - (j - 1) ≡ suc (16 - j) = omega arith in
    let q : s + j ≡ suc (s + (j - 1)) = omega arith in
    rw (n, e, f, q, bit_is (eqb (get_or t (s + (j - 1)) 0) 10))

pub newlines_done : (t : List ℕ) (s j m : ℕ) → j ≤ 0 → m ≡ newlines_in (16 - j) t (s + j) → m ≡ newlines_in 16 t s
newlines_done t s j m h e =
    let z : j ≡ 0 = omega arith in
    e ∙ rw (z, add-zero)

-- the first of them

record Found (t : List ℕ) (s n z : ℕ) : Type 0 where
  before_end : z < n
  is_newline : get_or t (s + z) 0 ≡ 10
  none_before : (k : ℕ) → s ≤ k → k < s + z → get_or t k 0 ≡ 10 → ⊥

found_at : (n k : ℕ) (t : List ℕ) (s : ℕ) → n ≤ k → (newlines_in n t s ≡ 0 → ⊥) → Found t s n (count_trailing_zeros k (newlines_in n t s))
unfolding count_trailing_zeros pick
found_at zero k t s h nz = absurd (nz refl)
found_at (suc n) zero t s h nz = absurd (omega arith)
found_at (suc n) (suc k) t s h nz = go (eqb (get_or t s 0) 10) refl (found_at n k t (suc s) (omega arith))
  where
    m : ℕ
    m = newlines_in n t (suc s)

    go : (b : Bool) → eqb (get_or t s 0) 10 ≡ b → ((m ≡ 0 → ⊥) → Found t (suc s) n (count_trailing_zeros k m)) →
        Found t s (suc n) (count_trailing_zeros (suc k) (2 * m + pick b 1 0))
    go true e f =
        let q : (2 * m + 1) % 2 ≡ 1 = omega arith in
        rw q (record { before_end = omega arith; is_newline = rw add-zero (eqb-true (get_or t s 0) 10 e); none_before = λ i a b c. absurd (omega arith) })
    go false e f =
        let q : (2 * m + 0) % 2 ≡ 0 = omega arith in
        let d : (2 * m + 0) / 2 ≡ m = omega arith in
        let r = f (λ z. nz (rw (z, e))) in
        let low = r.before_end in
        let z = count_trailing_zeros k m in
        let p : s + suc z ≡ suc s + z = omega arith in
        rw (q, d)
        (record {
          before_end = omega arith;
          is_newline = ap (λ (x : ℕ). get_or t x 0) p ∙ r.is_newline;
          none_before = λ i a b c. later i a b c (eqb i s) refl r.none_before;
        })
      where
        later : (i : ℕ) → s ≤ i → i < s + suc (count_trailing_zeros k m) → get_or t i 0 ≡ 10 → (x : Bool) → eqb i s ≡ x →
            ((i : ℕ) → suc s ≤ i → i < suc s + count_trailing_zeros k m → get_or t i 0 ≡ 10 → ⊥) → ⊥
        later i a b c true x g = eqb-false (get_or t s 0) 10 e (rw (eqb-true i s x) at c)
        later i a b c false x g = let d = eqb-false i s x in g i (omega arith) (omega arith) c

none_in : (n : ℕ) (t : List ℕ) (s : ℕ) → newlines_in n t s ≡ 0 → (k : ℕ) → s ≤ k → k < s + n → get_or t k 0 ≡ 10 → ⊥
unfolding pick
none_in zero t s z k a b c = absurd (omega arith)
none_in (suc n) t s z k a b c = go (eqb (get_or t s 0) 10) refl (eqb k s) refl (λ q. none_in n t (suc s) q)
  where
    go : (x : Bool) → eqb (get_or t s 0) 10 ≡ x → (y : Bool) → eqb k s ≡ y →
        (newlines_in n t (suc s) ≡ 0 → (k : ℕ) → suc s ≤ k → k < suc s + n → get_or t k 0 ≡ 10 → ⊥) → ⊥
    go true x y u g = let q = rw x at z in omega (arith, q)
    go false x true u g = eqb-false (get_or t s 0) 10 x (rw (eqb-true k s u) at c)
    go false x false u g =
        let q = rw x at z in
        let d = eqb-false k s u in
        g (omega (arith, q)) k (omega arith) (omega arith) c

-- blocks without a newline are skipped

pub skipped_none : (t : List ℕ) (s : ℕ) → s ≤ length t → Skipped t s s
skipped_none t s h = record { forward = omega arith; inside = h; none = λ k a b c. absurd (omega arith) }

pub skipped_on : (t : List ℕ) (s j r : ℕ) → Skipped t s j → Skipped t j r → Skipped t s r
skipped_on t s j r i h =
    let f = i.forward in
    let g = h.forward in
    record { forward = omega arith; inside = h.inside; none = λ k a b c. go k a b c (leb j k) refl }
  where
    go : (k : ℕ) → s ≤ k → k < r → get_or t k 0 ≡ 10 → (x : Bool) → leb j k ≡ x → ⊥
    go k a b c true x = h.none k (leb-true j k x) b c
    go k a b c false x = i.none k a (leb-false j k x) c

pub skipped_more : (t : List ℕ) (s j m : ℕ) → Skipped t s j → j + 16 ≤ length t → m ≡ newlines_in 16 t j → m ≡ 0 → Skipped t s (j + 16)
skipped_more t s j m i h e z =
    skipped_on t s j (j + 16) i (record { forward = omega arith; inside = h; none = none_in 16 t j (sym e ∙ z) })

-- the line's end

ends_here : (t : List ℕ) (s r : ℕ) → Ended t s r → LineEnd t s r
ends_here t s r e = let k = e.skipped in line_ends t s r k.forward k.inside k.none e.at_end

pub ends_after : (t : List ℕ) (s j r : ℕ) → Skipped t s j → Ended t j r → LineEnd t s r
ends_after t s j r i e = ends_here t s r (record { skipped = skipped_on t s j r i e.skipped; at_end = e.at_end })

pub ends_in_block : (t : List ℕ) (s j m : ℕ) → Skipped t s j → j + 16 ≤ length t → m ≡ newlines_in 16 t j → (m ≡ 0 → ⊥) → LineEnd t s (j + count_trailing_zeros 32 m)
ends_in_block t s j m i h e z =
    let r : Found t j 16 (count_trailing_zeros 32 m) = rw (← e) at (found_at 16 32 t j (omega arith) (λ q. z (e ∙ q))) in
    let low = r.before_end in
    ends_after t s j (j + count_trailing_zeros 32 m) i
    (record { skipped = record { forward = omega arith; inside = omega arith; none = r.none_before }; at_end = λ _. r.is_newline })
