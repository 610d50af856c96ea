-- The laws of pieces: what is printed is read back, and two forms that are apart print no line in common.
-- Assumes nothing.
use Prim.Native.Nat.{ℕ, zero, suc, ◌+◌, ◌*◌, ◌/◌, ◌%◌, ◌^◌, ◌<◌, ◌≤◌}
use mathlib.Core.Path.{◌≡◌, refl, sym, ap, subst, ◌∙◌}
use mathlib.Core.Logic.{◌⊎◌, inl, inr}
use mathlib.Core.Bool.{Bool, true, false, not, ◌&&◌}
use mathlib.Core.List.{List, [], ◌∷◌, ◌++◌, append_assoc}
use native.Mathlib.Nat.{pow-suc, le_of_suc-le-suc, not-suc-le-zero}
use native.Mathlib.Omega.{arith}
use lib.Dec.{T, eqb, ltb, leb, eqb→eq, eqb_refl, T_not, leb→le, ltb→lt}
use lib.ListN.{length, get_or, take, drop, length-append, take-append-drop}
use lib.Seq.{drop-append_seam, drop_at, get_or_at, take-suc}
use Rattle.laws.specs.Choice.{pick, pick_yes, pick_no, decided_yes, true_is}
use Rattle.laws.specs.Test.{imp, imp_use, and_left, and_right, and_both, or_cases, or_left, or_right}
use Rattle.laws.specs.Table.{every, at_every}
use Rattle.syntax.specs.Digits.{spelled, digit, hex}
use Rattle.words.specs.Frames.{Column, FLAG, NUMBER, DESTINATION, SOURCE, VALUE, Column-discrete}
use Rattle.syntax.specs.Pieces.{Piece, says, shows, print, is_column, digit_value, number_in, read, width_in, Class, byte, bytes, digits, pattern, is_hex, disjoint, apart, showable, showing, once, equal}
use Rattle.syntax.specs.Pieces.Class.{digit as any}

pub length_hex : (w n : ℕ) → length (hex w n) ≡ w
unfolding spelled
length_hex zero n = refl
length_hex (suc w) n = rw (length-append) (omega (arith, length_hex w (n / 16)))

-- a digit's value
all_valued : T (every 16 (λ d. eqb (digit_value (digit d)) d))
unfolding digit pick
all_valued = tt

valued : (d : ℕ) → d < 16 → digit_value (digit d) ≡ d
valued d h = eqb→eq (digit_value (digit d)) d (at_every 16 (λ e. eqb (digit_value (digit e)) e) d all_valued h)

-- a number's digits, read
pub number_back : (w n : ℕ) (rest : List ℕ) → n < 16 ^ w → number_in w (hex w n ++ rest) ≡ n
unfolding spelled
number_back zero n rest h = omega arith
number_back (suc w) n rest h =
    let small : n / 16 < 16 ^ w = let k = rw pow-suc at h in omega arith in
    rw append_assoc
    (rw (
      number_back w (n / 16) (digit (n % 16) ∷ rest) small,
      get_or_at (hex w (n / 16)) (digit (n % 16)) rest 0 w (length_hex w (n / 16)),
      valued (n % 16) (omega arith),
    )
    (omega arith))

-- columns are alike where the test says so

pub column_is : (p q : Column) → T (is_column p q) → p ≡ q
column_is p q t = decided_yes (Column-discrete p q) t

pub column_same : (p : Column) → T (is_column p p)
column_same FLAG = tt
column_same NUMBER = tt
column_same DESTINATION = tt
column_same SOURCE = tt
column_same VALUE = tt

read_shows : (w : ℕ) (p q : Column) (g : Column → ℕ) (l : List ℕ) (f : List Piece) (b : Bool) → is_column p q ≡ b → g p < 16 ^ pick b w (width_in f p) →
    (g p < 16 ^ width_in f p → read f p l ≡ g p) →
    pick b (number_in w (hex w (g q) ++ l)) (read f p (drop w (hex w (g q) ++ l))) ≡ g p
unfolding pick
read_shows w p q g l f true e h k = rw (← column_is p q (true_is (is_column p q) e)) (number_back w (g p) l h)
read_shows w p q g l f false e h k = rw (drop_at (hex w (g q)) l w (length_hex w (g q))) (k h)

-- a part that fits the digits it is shown in (none: it is 0) is read back from what was printed
pub read_print : (f : List Piece) (g : Column → ℕ) (p : Column) → g p < 16 ^ width_in f p → read f p (print f g) ≡ g p
read_print [] g p h = omega arith
read_print (says t ∷ f) g p h = rw drop-append_seam (read_print f g p h)
read_print (shows w q ∷ f) g p h = read_shows w p q g (print f g) f (is_column p q) refl h (read_print f g p)

-- what is printed has the form's pattern

abbrev pub At : Class → ℕ → Type 0
At (byte a) b = T (eqb a b)
At any b = T (is_hex b)

abbrev pub Fitting : List Class → List ℕ → Type 0
Fitting [] [] = Unit {0}
Fitting [] (b ∷ l) = ⊥
Fitting (k ∷ ks) [] = ⊥
Fitting (k ∷ ks) (b ∷ l) = At k b × Fitting ks l

fit_bytes : (t : List ℕ) (ks : List Class) (l : List ℕ) → Fitting ks l → Fitting (bytes t ks) (t ++ l)
fit_bytes [] ks l h = h
fit_bytes (x ∷ t) ks l h = (eqb_refl x, fit_bytes t ks l h)

digits_snoc : (w : ℕ) (ks : List Class) → digits w (any ∷ ks) ≡ any ∷ digits w ks
digits_snoc zero ks = refl
digits_snoc (suc w) ks = ap (λ (k : List Class). any ∷ k) (digits_snoc w ks)

all_hex : T (every 16 (λ d. is_hex (digit d)))
unfolding digit pick
all_hex = tt

pub fit_digits : (w n : ℕ) (ks : List Class) (l : List ℕ) → Fitting ks l → Fitting (digits w ks) (hex w n ++ l)
unfolding spelled
fit_digits zero n ks l h = h
fit_digits (suc w) n ks l h =
    rw append_assoc
    (subst (λ (k : List Class). Fitting k (hex w (n / 16) ++ (digit (n % 16) ∷ l))) (digits_snoc w ks)
    (fit_digits w (n / 16) (any ∷ ks) (digit (n % 16) ∷ l) (at_every 16 (λ d. is_hex (digit d)) (n % 16) all_hex (omega arith), h)))

pub print_fits : (f : List Piece) (g : Column → ℕ) → Fitting (pattern f) (print f g)
print_fits [] g = tt
print_fits (says t ∷ f) g = fit_bytes t (pattern f) (print f g) (print_fits f g)
print_fits (shows w p ∷ f) g = fit_digits w (g p) (pattern f) (print f g) (print_fits f g)

disjoint_at : (j k : Class) (b : ℕ) → T (disjoint j k) → At j b → At k b → ⊥
disjoint_at (byte x) (byte y) b d h i = T_not (eqb x y) d (rw (eqb→eq x b h, eqb→eq y b i) (eqb_refl b))
disjoint_at (byte x) any b d h i = T_not (is_hex x) d (rw (eqb→eq x b h) i)
disjoint_at any (byte y) b d h i = T_not (is_hex y) d (rw (eqb→eq y b i) h)
disjoint_at any any b d h i = d

apart_fit : (p q : List Class) (l : List ℕ) → T (apart p q) → Fitting p l → Fitting q l → ⊥
apart_fit [] [] l a h k = a
apart_fit [] (y ∷ q) [] a h k = k
apart_fit [] (y ∷ q) (b ∷ l) a h k = h
apart_fit (x ∷ p) [] [] a h k = h
apart_fit (x ∷ p) [] (b ∷ l) a h k = k
apart_fit (x ∷ p) (y ∷ q) [] a h k = h
apart_fit (x ∷ p) (y ∷ q) (b ∷ l) a h k = go (or_cases (disjoint x y) (apart p q) a) (λ t. apart_fit p q l t h.1 k.1)
  where
    go : T (disjoint x y) ⊎ T (apart p q) → (T (apart p q) → ⊥) → ⊥
    go (inl t) f = disjoint_at x y b t h.0 k.0
    go (inr t) f = f t

-- forms whose patterns are apart print no line in common
pub no_common : (f e : List Piece) (g h : Column → ℕ) → T (apart (pattern f) (pattern e)) → print f g ≡ print e h → ⊥
no_common f e g h a q = apart_fit (pattern f) (pattern e) (print e h) a (rw (← q) (print_fits f g)) (print_fits e h)

-- the other way: a line that has a form's pattern is what the form prints of what it reads off the line

-- g has what the digits say
abbrev Agree : List Piece → (Column → ℕ) → List ℕ → Type 0
Agree [] g l = Unit {0}
Agree (says t ∷ f) g l = Agree f g (drop (length t) l)
Agree (shows w p ∷ f) g l = (g p ≡ number_in w l) × Agree f g (drop w l)

bytes_back : (t : List ℕ) (ks : List Class) (l : List ℕ) → Fitting (bytes t ks) l → (t ++ drop (length t) l ≡ l) × Fitting ks (drop (length t) l)
bytes_back [] ks l h = (refl, h)
bytes_back (x ∷ t) ks [] h = absurd h
bytes_back (x ∷ t) ks (b ∷ l) h =
    let r = bytes_back t ks l h.1 in
    (rw (eqb→eq x b h.0, r.0), r.1)

all_digit : T (every 256 (λ b. imp (is_hex b) (eqb (digit (digit_value b)) b && ltb (digit_value b) 16)))
unfolding digit pick
all_digit = tt

pub hex_small : (b : ℕ) → T (is_hex b) → b < 256
hex_small b t = go (or_cases (leb 48 b && leb b 57) (leb 97 b && leb b 102) t)
  where
    go : T (leb 48 b && leb b 57) ⊎ T (leb 97 b && leb b 102) → b < 256
    go (inl h) = let k = leb→le b 57 (and_right (leb 48 b) (leb b 57) h) in omega arith
    go (inr h) = let k = leb→le b 102 (and_right (leb 97 b) (leb b 102) h) in omega arith

hex_digit : (b : ℕ) → T (is_hex b) → (digit (digit_value b) ≡ b) × (digit_value b < 16)
hex_digit b t =
    let u = at_every 256 (λ b. imp (is_hex b) (eqb (digit (digit_value b)) b && ltb (digit_value b) 16)) b all_digit (hex_small b t) in
    let v = imp_use (is_hex b) (eqb (digit (digit_value b)) b && ltb (digit_value b) 16) u t in (
      eqb→eq (digit (digit_value b)) b (and_left (eqb (digit (digit_value b)) b) (ltb (digit_value b) 16) v),
      ltb→lt (digit_value b) 16 (and_right (eqb (digit (digit_value b)) b) (ltb (digit_value b) 16) v),
    )

pub digits_fit : (w : ℕ) (ks : List Class) (l : List ℕ) → Fitting (digits w ks) l → (w ≤ length l) × ((j : ℕ) → j < w → T (is_hex (get_or l j 0))) × Fitting ks (drop w l)
digits_fit zero ks l h = (omega arith, (λ j k. absurd (not-suc-le-zero k)), h)
digits_fit (suc w) ks [] h = absurd h
digits_fit (suc w) ks (b ∷ l) h =
    let r = digits_fit w ks l h.1 in
    (omega arith, each b l w h.0 r.1, r.2)
  where
    each : (b : ℕ) (l : List ℕ) (w : ℕ) → T (is_hex b) → ((j : ℕ) → j < w → T (is_hex (get_or l j 0))) → (j : ℕ) → j < suc w → T (is_hex (get_or (b ∷ l) j 0))
    each b l w t f zero k = t
    each b l w t f (suc j) k = f j (le_of_suc-le-suc k)

value_hex : (w : ℕ) (l : List ℕ) → w ≤ length l → ((j : ℕ) → j < w → T (is_hex (get_or l j 0))) → hex w (number_in w l) ≡ take w l
unfolding spelled
value_hex zero l h f = refl
value_hex (suc w) l h f =
    let d = hex_digit (get_or l w 0) (f w (omega arith)) in
    let q : (16 * number_in w l + digit_value (get_or l w 0)) / 16 ≡ number_in w l = let s = d.1 in omega arith in
    let m : (16 * number_in w l + digit_value (get_or l w 0)) % 16 ≡ digit_value (get_or l w 0) = let s = d.1 in omega arith in
    let ih = value_hex w l (omega arith) (λ j k. f j (omega arith)) in
    rw (q, m, d.0, ih, take-suc l w 0)

print_agrees : (f : List Piece) (g : Column → ℕ) (l : List ℕ) → Fitting (pattern f) l → Agree f g l → print f g ≡ l
print_agrees [] g [] h a = refl
print_agrees [] g (b ∷ l) h a = absurd h
print_agrees (says t ∷ f) g l h a =
    let r = bytes_back t (pattern f) l h in
    rw (print_agrees f g (drop (length t) l) r.1 a) r.0
print_agrees (shows w p ∷ f) g l h a =
    let r = digits_fit w (pattern f) l h in
    rw (a.0, print_agrees f g (drop w l) r.2 a.1, value_hex w l r.0 r.1) (take-append-drop w l)

-- what is read agrees, where each part is shown once

agrees : (f : List Piece) (h : Column → ℕ) (l : List ℕ) → T (once f) → ((p : Column) → T (showing p f) → h p ≡ read f p l) → Agree f h l
agrees [] h l o e = tt
agrees (says t ∷ f) h l o e = agrees f h (drop (length t) l) o e
agrees (shows w q ∷ f) h l o e =
    let o2 = and_right (showable q) (not (showing q f) && once f) o in (
      e q (or_left (is_column q q) (showing q f) (column_same q)) ∙ pick_yes (is_column q q) (number_in w l) (read f q (drop w l)) (column_same q),
      agrees f h (drop w l) (and_right (not (showing q f)) (once f) o2)
          (λ p s. e p (or_right (is_column p q) (showing p f) s) ∙
          pick_no (is_column p q) (number_in w l) (read f p (drop w l))
          (λ t. T_not (showing q f) (and_left (not (showing q f)) (once f) o2) (rw (column_is p q t) at s))),
    )

pub fits_prints : (f : List Piece) (g : Column → ℕ) (l : List ℕ) → T (once f) → ((p : Column) → T (showing p f) → g p ≡ read f p l) →
    Fitting (pattern f) l → print f g ≡ l
fits_prints f g l o e h = print_agrees f g l h (agrees f g l o e)

pub shown_some : (f : List Piece) (p : Column) → T (once f) → T (showing p f) → T (showable p)
shown_some [] p o s = absurd s
shown_some (says t ∷ f) p o s = shown_some f p o s
shown_some (shows w q ∷ f) p o s =
    go (or_cases (is_column p q) (showing p f) s) (shown_some f p (and_right (not (showing q f)) (once f) (and_right (showable q) (not (showing q f) && once f) o)))
  where
    go : T (is_column p q) ⊎ T (showing p f) → (T (showing p f) → T (showable p)) → T (showable p)
    go (inl t) k = rw (column_is p q t) (and_left (showable q) (not (showing q f) && once f) o)
    go (inr t) k = k t

-- the test of two lines

pub equal_is : (l m : List ℕ) → T (equal l m) → l ≡ m
equal_is [] [] h = refl
equal_is [] (y ∷ m) h = absurd h
equal_is (x ∷ l) [] h = absurd h
equal_is (x ∷ l) (y ∷ m) h =
    rw (eqb→eq x y (and_left (eqb x y) (equal l m) h), equal_is l m (and_right (eqb x y) (equal l m) h))

pub equal_same : (l : List ℕ) → T (equal l l)
equal_same [] = tt
equal_same (x ∷ l) = and_both (eqb x x) (equal l l) (eqb_refl x) (equal_same l)

-- pieces one after another

pub print_append : (e f : List Piece) (g : Column → ℕ) → print (e ++ f) g ≡ print e g ++ print f g
print_append [] f g = refl
print_append (says t ∷ e) f g = rw (print_append e f g) (sym (append_assoc t (print e g) (print f g)))
print_append (shows w p ∷ e) f g = rw (print_append e f g) (sym (append_assoc (hex w (g p)) (print e g) (print f g)))
