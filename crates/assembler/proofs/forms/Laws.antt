-- Steps of reading a line: one lemma over variables for each.
-- Assumes nothing.
use Prim.Native.Nat.{ℕ, zero, suc, ◌+◌, ◌-◌, ◌*◌, ◌/◌, ◌%◌, ◌^◌, ◌<◌, ◌≤◌}
use mathlib.Core.Bool.{Bool, true, false, not, ◌&&◌, ◌||◌, and-true}
use mathlib.Core.Path.{◌≡◌, refl, ap, sym, ◌∙◌}
use mathlib.Core.List.{List}
use native.Mathlib.Nat.{pow-suc, pow-le-pow_right, add-zero, add-suc}
use native.Mathlib.Numerals.{add-one}
use native.Mathlib.Omega.{arith}
use borrow.Author.Tests.{eq-eqb, ne_eqb}
use lib.Dec.{eqb}
use lib.ListN.{length, get_or, drop}
use lib.Seq.{get_or-drop, drop-drop}
use Rattle.laws.specs.Choice.{pick}
use Rattle.words.specs.declared.Instruction.{Instruction}
use Rattle.syntax.specs.Pieces.{is_hex, number_in}
use Rattle.assembler.specs.Bytes.{byte_before}
use Rattle.assembler.specs.Heads.{mark_of, key_of}
use Rattle.assembler.specs.Packed.{form_table, admits, matching, Padded, is_form_in, part_in, read_in}
use Rattle.assembler.proofs.Packed.{padded}

pub admits_is : (p b : ℕ) (h : Bool) → h ≡ is_hex b → (eqb p b || (eqb p 97 && h)) || eqb p 0 ≡ admits p b
unfolding admits
admits_is p b h e = rw e

-- one byte more

not_and : (a b : Bool) → not a || not b ≡ not (a && b)
not_and true b = refl
not_and false b = refl

pub differs_more : (bad r : Bool) (j from : ℕ) (x : List ℕ) (at p : ℕ) → bad ≡ not (matching j form_table from x at) → p ≡ get_or form_table (from + j) 0 →
    r ≡ admits p (get_or x (at + j) 0) → bad || not r ≡ not (matching (j + 1) form_table from x at)
differs_more bad r j from x at p e g f =
    rw (e, f, g, add-one j) (not_and (matching j form_table from x at) (admits (get_or form_table (from + j) 0) (get_or x (at + j) 0)))

pub differs_done : (bad : Bool) (j n from : ℕ) (x : List ℕ) (at : ℕ) → bad ≡ not (matching j form_table from x at) → j ≤ n → n ≤ j →
    bad ≡ not (matching n form_table from x at)
differs_done bad j n from x at e h k =
    let q : j ≡ n = omega arith in
    rw q at e

not_not : (a : Bool) → not (not a) ≡ a
not_not true = refl
not_not false = refl

matches_is : (bad : Bool) (n : ℕ) (t : List ℕ) (from : ℕ) (x : List ℕ) (at : ℕ) → bad ≡ not (matching n t from x at) → not bad ≡ matching n t from x at
matches_is bad n t from x at e = rw e (not_not (matching n t from x at))

-- bytes behind the end are not looked at

admits_rest : (p b : ℕ) → p ≡ 0 → admits p b ≡ true
unfolding admits
admits_rest p b e = rw e (or_true (eqb 0 b))
  where
    or_true : (a : Bool) → (a || false) || true ≡ true
    or_true true = refl
    or_true false = refl

padded_from : (m n : ℕ) (t : List ℕ) (from : ℕ) (x : List ℕ) (at : ℕ) → Padded t from n → n + m ≤ 16 → matching (n + m) t from x at ≡ matching n t from x at
padded_from zero n t from x at p h = rw add-zero
padded_from (suc m) n t from x at p h =
    rw (add-suc n m, admits_rest (get_or t (from + (n + m)) 0) (get_or x (at + (n + m)) 0) (p (n + m) (omega arith) (omega arith)))
    (and-true (matching (n + m) t from x at) ∙ padded_from m n t from x at p (omega arith))

matches_wide : (bad : Bool) (n : ℕ) (t : List ℕ) (from : ℕ) (x : List ℕ) (at : ℕ) → Padded t from n → n ≤ 16 → bad ≡ not (matching 16 t from x at) →
    not bad ≡ matching n t from x at
matches_wide bad n t from x at p h e =
    let q : n + (16 - n) ≡ 16 = omega arith in
    matches_is bad 16 t from x at e ∙ ap (λ (k : ℕ). matching k t from x at) (sym q) ∙ padded_from (16 - n) n t from x at p (omega arith)

-- a form

module _ (q : ℕ) (x : List ℕ) (at n m : ℕ) (long : m ≡ get_or form_table (32 * q + 16) 0) where
  pub form_narrow : (bad : Bool) → m ≡ n → bad ≡ not (matching n form_table (32 * q) x at) → not bad ≡ is_form_in form_table q x at n
  unfolding is_form_in
  form_narrow bad h e = rw (eq-eqb (get_or form_table (32 * q + 16) 0) n (sym long ∙ h)) (matches_is bad n form_table (32 * q) x at e)

  pub form_wide : (bad : Bool) → q < 186 → n ≤ 16 → m ≡ n → bad ≡ not (matching 16 form_table (32 * q) x at) → not bad ≡ is_form_in form_table q x at n
  unfolding is_form_in
  form_wide bad k s h e =
      let l : get_or form_table (32 * q + 16) 0 ≡ n = sym long ∙ h in
      rw (eq-eqb (get_or form_table (32 * q + 16) 0) n l) (matches_wide bad n form_table (32 * q) x at (padded q n k l) s e)

  pub form_else : (m ≡ n → ⊥) → false ≡ is_form_in form_table q x at n
  unfolding is_form_in
  form_else h = rw (ne_eqb (get_or form_table (32 * q + 16) 0) n (λ e. h (long ∙ e)))

-- digits

pub pow_small : (j : ℕ) → j ≤ 6 → 16 ^ j ≤ 0x1000000
pow_small j h = pow-le-pow_right {n = 16} (omega arith) {i = j} {j = 6} h

pub number_more : (j at : ℕ) (l : List ℕ) (m b : ℕ) → m ≡ number_in j (drop at l) → b ≡ get_or l (at + j) 0 →
    16 * m + (b % 16 + 9 * (b / 64)) ≡ number_in (j + 1) (drop at l)
number_more j at l m b e q = rw (add-one j, get_or-drop at l j 0, e, q)

pub bound_more : (j m b : ℕ) → m + 3 ≤ 3 * 16 ^ j → b < 256 → 16 * m + (b % 16 + 9 * (b / 64)) + 3 ≤ 3 * 16 ^ (j + 1)
bound_more j m b h k = rw (add-one j, pow-suc 16 j) (omega arith)

pub number_done : (j w at : ℕ) (l : List ℕ) (m : ℕ) → j ≤ w → w ≤ j → m ≡ number_in j (drop at l) → m ≡ number_in w (drop at l)
number_done j w at l m h k e =
    let q : j ≡ w = omega arith in
    rw q at e

pub part_is : (k : ℕ) (x : List ℕ) (at place width r : ℕ) → place ≡ get_or form_table k 0 → width ≡ get_or form_table (k + 1) 0 →
    r ≡ number_in width (drop (at + place) x) → r ≡ part_in form_table k (drop at x)
unfolding part_in
part_is k x at place width r e f g = g ∙ rw (e, f, drop-drop (get_or form_table k 0) at x)

pub read_is : (q : ℕ) (l : List ℕ) (a b c d e f : ℕ) → a ≡ get_or form_table (32 * q + 17) 0 → b ≡ get_or form_table (32 * q + 18) 0 →
    c ≡ get_or form_table (32 * q + 19) 0 → d ≡ part_in form_table (32 * q + 20) l → e ≡ part_in form_table (32 * q + 22) l → f ≡ part_in form_table (32 * q + 24) l →
    ◌≡◌ {A = Instruction} (record { row = a; flag = b; destination = d; source = e; number = c; value = f }) (read_in form_table q l)
unfolding read_in
read_is q l a b c d e f p1 p2 p3 p4 p5 p6 = rw (p1, p2, p3, p4, p5, p6)

-- keys

pub mark_digit : (b : ℕ) (h : Bool) → h ≡ is_hex b → h ≡ true → 0 ≡ mark_of b
unfolding mark_of pick
mark_digit b h e f = rw (sym e ∙ f)

pub mark_other : (b : ℕ) (h : Bool) → h ≡ is_hex b → h ≡ false → b ≡ mark_of b
unfolding mark_of pick
mark_other b h e f = rw (sym e ∙ f)

pub key_is : (l : List ℕ) (a b c d e f m n : ℕ) → a ≡ get_or l 0 0 → b ≡ get_or l 1 0 → c ≡ get_or l 2 0 → d ≡ get_or l 3 0 → m ≡ byte_before l 5 → n ≡ byte_before l 7 →
    e ≡ mark_of m → f ≡ mark_of n →
    (103768835 * (a + 0x100 * b + 0x10000 * c + 0x1000000 * d) + 904827101 * (length l + 0x100 * e + 0x10000 * f)) / 0x100000 % 512 ≡ key_of l
unfolding key_of
key_is l a b c d e f m n p q r s u v y z = rw (p, q, r, s, y, z, u, v)
