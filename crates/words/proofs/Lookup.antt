-- The tables of specs/Lookup.antt agree with Rows, Words and Facts: what the computed tests over the rows (Checks) tell of a row and of a word.
-- Assumes nothing.
use Prim.Native.Nat.{ℕ, ◌+◌, ◌-◌, ◌/◌, ◌%◌, ◌≤◌, ◌<◌}
use mathlib.Core.Path.{◌≡◌, refl, ◌∙◌, sym}
use mathlib.Core.Bool.{Bool, true, false, ◌&&◌}
use mathlib.Core.List.{List, [], ◌∷◌}
use mathlib.Core.Logic.{◌⊎◌, inl, inr}
use native.Mathlib.Nat.{not-suc-le-zero}
use native.Mathlib.Omega.{arith}
use borrow.Author.Tests.{ltb-true, ltb-false}
use lib.Dec.{T, leb, leb→le, ltb, ltb→lt, eqb, eqb→eq}
use lib.ListN.{get_or-eq_default}
use Rattle.laws.specs.Choice.{pick, either}
use Rattle.laws.specs.Test.{◌and◌, test, Holds, holds, Member, imp, imp_use, eq→eqb, and_left, and_right}
use Rattle.laws.specs.Lists.{all_at}
use Rattle.laws.specs.First.{first_failing, Obeyed, none_fails, numbered, obeyed}
use Rattle.words.specs.declared.Config.{Config}
use Rattle.words.specs.declared.Instruction.{Instruction}
use Rattle.words.specs.Parts.{Part, unused, flag, byte, coprocessor, register, unit, mask, immediate, read_address, write_address, target, count, bank_address, short, is, in_range}
use Rattle.words.specs.Parts.{Option, never, available}
use Rattle.words.specs.Rows.{Row, row_count, row_at}
use Rattle.words.specs.Words.{flag_in, Layout, registers, upper_value, whole, layout_of, upper_in, lower_in, value_in, fields_in, spread, fits, refusals567, answered, parts_by, parts_of, read_by, read_lawful}
use Rattle.words.specs.Classes.{index, upper_bytes, port, irq_switch, misc, class_of, field_of, code_at, choices, lookup, row_in, row_of}
use Rattle.words.specs.Configs.{register_sizes, lawful}
use Rattle.words.specs.Claims.{understood}
use Rattle.words.specs.Actions.{Check, checks, entries}
use Rattle.words.specs.Packed.{limit_of}
use Rattle.words.specs.Lookup.{entry_at, entry_of, check_at, limit_in, upper_limit, lower_limit, Quick, Agrees}
use Rattle.words.proofs.Keys.{code, most_of, row_facts}
use Rattle.words.proofs.RoundTrip.{decoded}
use Rattle.words.proofs.Checks.{is_it, needs_it, isnt_it, sides_like, check_at_lem, upper_at, lower_at, value_at, whole_at, uses_at}

-- A word that is read

-- what it means that i is read
record Read-as (c : Config) (w : ℕ) (i : Instruction) : Type 0 where
  parts : i ≡ parts_of c w
  row : (parts_of c w).row < row_count
  option : Holds (available c (row_at (parts_of c w).row).option)
  fit : Holds (fits c (row_at (parts_of c w).row) (parts_of c w))

read_as : (c : Config) (w : ℕ) (i : Instruction) → read_lawful c w ≡ understood i → Read-as c w i
unfolding read_lawful read_by parts_of refusals567
read_as c w i e =
    let tests = refusals567 c (row_at (parts_of c w).row) (parts_of c w) in
    let p = decoded (first_failing tests) (parts_of c w) i e in
    let q = obeyed tests (numbered tests tt) p.0 in
    record { parts = sym p.1; row = q.0; option = q.1.0; fit = q.1.1.0 }

unnamed : (c : Config) (o : Option) → Holds (available c o) → o ≡ never → ⊥
unfolding available
unnamed c o h e = rw e at h

pub read_row : (c : Config) (w : ℕ) (i : Instruction) → read_lawful c w ≡ understood i →
    (i.row < row_count) × ((row_at i.row).option ≡ never → ⊥) × (i ≡ parts_of c w) × (entry_at i.row ≡ entry_of w)
unfolding parts_of parts_by spread fields_in entry_of
read_row c w i e = let p = read_as c w i e in rw p.parts (p.row, unnamed c _ p.option, refl, refl)

-- A word that passes the check of its entry

under_pick : (b : Bool) (x y : ℕ) → x < pick b y 0 → T b × (x < y)
unfolding pick
under_pick true x y h = (tt, h)
under_pick false x y h = absurd (not-suc-le-zero h)

above_pick : (b : Bool) (x y : ℕ) → x < pick b 0 y → (T b → ⊥) × (x < y)
unfolding pick
above_pick true x y h = absurd (not-suc-le-zero h)
above_pick false x y h = ((λ t. t), h)

-- each part is in its range

flag_fits : (c : Config) (p : Part) (k : ℕ) → (p ≡ unused) ⊎ (p ≡ flag) → Holds (in_range c p (flag_in p k))
unfolding flag_in in_range pick
flag_fits c p k (inl e) = rw e refl
flag_fits c p k (inr e) = rw e (omega arith)

number_fits : (c : Config) (p : Part) (m : ℕ) → m < most_of p → (p ≡ unused) ⊎ (p ≡ byte) × (c.regwidth ≡ 32) → Holds (in_range c p m)
unfolding in_range most_of
number_fits c p m h (inl e) = let z = rw e at h in rw e (omega (arith, z))
number_fits c p m h (inr e) = rw (e.0, e.1) (rw e.0 at h)

limit_under : (c : Config) (p : Part) (m : ℕ) → m < limit_in c p → Holds (in_range c p m)
unfolding limit_in limit_of in_range pick
limit_under c unused m h = omega arith
limit_under c flag m h = h
limit_under c byte m h = h
limit_under c coprocessor m h = h
limit_under c register m h = h
limit_under c unit m h = h
limit_under c mask m h = h
limit_under c immediate m h = h
limit_under c read_address m h = h
limit_under c write_address m h = h
limit_under c target m h = h
limit_under c count m h = let q = above_pick (eqb c.alulevel 0) m 16 h in (q.1, λ t. absurd (q.0 t))
limit_under c bank_address m h = h
limit_under c short m h = h

nothing_beside : (c : Config) → limit_in c unused ≡ 1
unfolding limit_in limit_of in_range pick
nothing_beside c = refl

unused_fits : (c : Config) (p : Part) → p ≡ unused → Holds (in_range c p 0)
unfolding in_range
unused_fits c p e = rw e refl

module _
    (c : Config) (r : Row) (k : Check) (f : ℕ) (same_code : k.code ≡ code r) (most-code : code r ≤ f) (most-low : code r % 65536 ≤ f % 65536)
    (hf : f < 0x800000) (hu : f / 65536 < k.code / 65536 + limit_in c k.upper)
    (hl : f % 65536 < k.code % 65536 + limit_in c k.lower) where
  sides_fit : (y : Layout) → Holds (sides_like y r k) → Holds (
      in_range c r.destination (upper_in y (f - code r)) and
      in_range c r.source (lower_in y (f - code r)) and
      in_range c r.value (value_in y (f - code r))
      )
  unfolding upper_in lower_in value_in
  sides_fit registers t =
      let u = rw (is_it k.upper r.destination t.0, same_code) at hu in
      let l = rw (is_it k.lower r.source t.1.0, same_code) at hl in (
        limit_under c r.destination ((f - code r) / 65536) (omega arith),
        (
          limit_under c r.source ((f - code r) % 65536) (omega arith),
          unused_fits c _ (is_it r.value unused t.1.1),
        ),
      )
  sides_fit upper_value t =
      let u = rw (is_it k.upper r.destination t.0, same_code) at hu in
      let l = rw (is_it k.lower r.value t.1.0, same_code) at hl in (
        limit_under c r.destination ((f - code r) / 65536) (omega arith),
        (
          unused_fits c _ (is_it r.source unused t.1.1),
          limit_under c r.value ((f - code r) % 65536) (omega arith),
        ),
      )
  sides_fit whole t =
      let u = rw (is_it k.upper unused t.0, nothing_beside c, same_code) at hu in
      let l = rw (is_it k.lower r.value t.1.0, same_code) at hl in (
        unused_fits c _ (is_it r.destination unused t.1.1.1),
        (
          unused_fits c _ (is_it r.source unused t.1.1.0),
          limit_under c r.value (f - code r) (omega (arith, u, l)),
        ),
      )

past_entries : (n : ℕ) → row_count ≤ n → entry_at n ≡ 0
unfolding entry_at entries
past_entries n h = get_or-eq_default entries 0 h

-- a row whose check's option is there
found : (c : Config) (n : ℕ) → T (test (available c (check_at (entry_at n % 64)).option)) → n < row_count
unfolding check_at checks available
found c n t = go (ltb n row_count) refl
  where
    go : (b : Bool) → ltb n row_count ≡ b → n < row_count
    go true e = ltb-true n row_count e
    go false e = absurd (rw (past_entries n (ltb-false n row_count e)) at t)

-- a byte number that is not tested stands in a word of 32 bits
wide_number : (p : Part) (b width : ℕ) → T (imp (eqb b 1) (eqb width 32)) → T (is p unused) ⊎ T (is p byte) × (b ≡ 1) →
    (p ≡ unused) ⊎ (p ≡ byte) × (width ≡ 32)
wide_number p b width t (inl e) = inl (is_it p unused e)
wide_number p b width t (inr e) =
    inr (is_it p byte e.0, eqb→eq width 32 (imp_use (eqb b 1) (eqb width 32) t (eq→eqb b 1 e.1)))

flag_either : (p : Part) → T (is p unused) ⊎ T (is p flag) → (p ≡ unused) ⊎ (p ≡ flag)
flag_either p (inl t) = inl (is_it p unused t)
flag_either p (inr t) = inr (is_it p flag t)

-- what passes the check obeys 5, 6 and 7
obeys : (c : Config) (w : ℕ) → w < 0x100000000 → Quick c w → Obeyed (refusals567 c (row_at (parts_of c w).row) (parts_of c w))
unfolding parts_of parts_by spread fields_in refusals567 fits entry_of upper_limit lower_limit
obeys c w hw q =
    let k = w / 0x800000 in
    let f = w % 0x800000 in
    let n = row_of (class_of k) f in
    let r = row_at n in
    let x = check_at (entry_at n % 64) in
    let there = test (available c x.option) in
    let wide = imp (eqb x.numbered 1) (eqb c.regwidth 32) in
    let u = under_pick (there && wide) (w / 65536 % 128) (x.code / 65536 + limit_in c x.upper) q.upper in
    let row = found c n (and_left there wide u.0) in
    let right = check_at_lem c n row in
    let option = holds (available c r.option) (rw (needs_it x.option r.option right.0) at (and_left there wide u.0)) in
    let like = right.1 (isnt_it r.option never (unnamed c r.option option)) in
    let facts = row_facts k f (omega arith) (omega arith) row in
    let sides =
    sides_fit c r x f like.0 facts.code_most facts.code_low (omega arith) (omega (arith, u.1)) (omega (arith, q.lower))
    (layout_of c r.value) like.1.1.1 in (
      row,
      (
        option,
        (
          (
            flag_fits c r.flag k (flag_either r.flag like.1.0),
            (
              number_fits c r.number _ facts.number_less
                  (wide_number r.number x.numbered c.regwidth (and_right there wide u.0) like.1.1.0),
              sides,
            ),
          ),
          tt,
        ),
      ),
    )

pub quick : (c : Config) (w : ℕ) → Holds (lawful c) → w < 0x100000000 → Quick c w → read_lawful c w ≡ understood (parts_of c w)
unfolding read_lawful read_by parts_of answered pick
quick c w hc hw q = rw (none_fails (refusals567 c (row_at (parts_of c w).row) (parts_of c w)) (obeys c w hw q))

-- The parts that an action reads

-- what is below REG_SIZE is its own remainder
small_mod : (size x d : ℕ) → Member size register_sizes → x % 128 ≡ d % 128 → d < size → d ≡ x % 128
small_mod size x d m h l = let b = leb→le size 128 (all_at (λ v. leb v 128) register_sizes size tt m) in omega (arith, h, l, b)

-- bits of a word over a code that is clear of them
low_source : (w b : ℕ) → b ≤ w % 0x800000 → b % 256 ≡ 0 → w % 128 ≡ (w % 0x800000 - b) % 65536 % 128
low_source w b h z = omega arith

low_value : (w b : ℕ) → b ≤ w % 0x800000 → b % 65536 ≡ 0 → (w % 0x800000 - b) % 65536 ≡ w % 65536
low_value w b h z = omega arith

flag_at : (p : Part) (k : ℕ) → p ≡ flag → flag_in p k ≡ k / 8 % 2
unfolding flag_in pick
flag_at p k e = rw e

below_register : (c : Config) (p : Part) (v : ℕ) → p ≡ register → Holds (in_range c p v) → v < c.regsize
unfolding in_range
below_register c p v e h = rw e at h

most_byte : (p : Part) → p ≡ byte → most_of p ≡ 4
unfolding most_of
most_byte p e = rw e

parts_agree : (c : Config) (w : ℕ) → Holds (lawful c) → w < 0x100000000 → (parts_of c w).row < row_count →
    Holds (available c (row_at (parts_of c w).row).option) → Holds (fits c (row_at (parts_of c w).row) (parts_of c w)) →
    Agrees c.regsize (entry_of w / 0x4000000) w (parts_of c w)
unfolding parts_of parts_by spread fields_in fits entry_of lawful
parts_agree c w hc hw row option fit =
    let k = w / 0x800000 in
    let f = w % 0x800000 in
    let n = row_of (class_of k) f in
    let r = row_at n in
    let y = layout_of c r.value in
    let size = hc.1.0.1 in
    let facts = row_facts k f (omega arith) (omega arith) row in
    let u = uses_at c n row (unnamed c r.option option) in
    record {
      flag = λ t. flag_at r.flag k (is_it _ _ (u.0 t)) ∙ omega arith;
      destination = λ t.
          let q = u.1.0 t in
          let z = upper_at y (f - code r) q.1.0 in
          let l = below_register c r.destination _ (is_it _ _ q.0) fit.1.1.0 in
          (omega arith, l);
      source = λ t.
          let q = u.1.1.0 t in
          let z = lower_at y (f - code r) q.1.0 in
          let l = below_register c r.source _ (is_it _ _ q.0) fit.1.1.1.0 in
          (small_mod c.regsize w _ size (rw z (low_source w (code r) facts.code_most q.1.1)) l, l);
      number = λ t.
          let q = u.1.1.1.0 t in
          let m = most_byte r.number (is_it _ _ q.0) in
          omega arith;
      value = λ t.
          let q = u.1.1.1.1.0 t in
          value_at y (f - code r) q.0 ∙ low_value w (code r) facts.code_most q.1;
      target = λ t.
          let q = u.1.1.1.1.1.0 t in
          let z = whole_at y (f - code r) q.0 in
          omega arith;
      unit = λ t.
          let q = u.1.1.1.1.1.1 t in
          let z = upper_at y (f - code r) q.0 in
          omega arith;
    }

pub agrees : (c : Config) (w : ℕ) (i : Instruction) → Holds (lawful c) → w < 0x100000000 → read_lawful c w ≡ understood i →
    Agrees c.regsize (entry_of w / 0x4000000) w i
agrees c w i hc hw e = let p = read_as c w i e in rw p.parts (parts_agree c w hc hw p.row p.option p.fit)

-- Numbers of rows

abbrev rows_below : List (ℕ × ℕ) → Bool
rows_below [] = true
rows_below (x ∷ l) = ltb x.1 256 && rows_below l

abbrev Few : List (ℕ × ℕ) → Type 0
Few l = T (rows_below l)

few : (l : List (ℕ × ℕ)) (n : ℕ) → T (rows_below l) → lookup l n < 256
few [] n t = omega arith
few (x ∷ l) n t =
    either (λ m. m < 256) (eqb n x.0) x.1 (lookup l n)
    (λ _. ltb→lt x.1 256 (and_left (ltb x.1 256) (rows_below l) t))
    (λ _. few l n (and_right (ltb x.1 256) (rows_below l) t))

choices_few : (c : ℕ) → T (rows_below (choices c))
unfolding choices
choices_few c =
    either Few (eqb c index) _ _ (λ _. tt)
    (λ _. either Few (eqb c upper_bytes) _ _ (λ _. tt)
    (λ _. either Few (eqb c port) _ _ (λ _. tt)
    (λ _. either Few (eqb c irq_switch) _ _ (λ _. tt)
    (λ _. either Few (eqb c misc) _ _ (λ _. tt) (λ _. tt)))))

pub row_few : (k f : ℕ) → k < 512 → row_of (class_of k) f < 256
unfolding row_of row_in
row_few k f h =
    let c = class_of k in
    either (λ m. m < 256) (ltb c index) c (lookup (choices c) (code_at (field_of c) f))
    (λ t. let l = ltb→lt c index t in omega arith)
    (λ _. few (choices c) _ (choices_few c))
