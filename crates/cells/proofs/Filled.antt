-- The cell that a row's template and a word give is the cell of the instruction that the word is read as.
-- Assumes nothing.
use Prim.Native.Nat.{ℕ, ◌+◌, ◌*◌, ◌/◌, ◌%◌, ◌≤◌, ◌<◌}
use mathlib.Core.Path.{◌≡◌, refl, sym, ap, ◌∙◌}
use mathlib.Core.Bool.{Bool, true, false, not, ◌&&◌, ◌||◌}
use native.Mathlib.Omega.{arith}
use native.Mathlib.Nat.{lt_of_lt_of_le}
use borrow.Author.Tests.{ltb-true, ltb-false, eqb-false}
use lib.Dec.{T, ltb, leb, lt→ltb, leb→le, eqb, eqb→eq, not_T}
use lib.Pow.{pow_mono}
use Rattle.laws.specs.Choice.{pick, either, is_true, true_is}
use Rattle.laws.specs.Test.{Test, most, same, isnt, yes?, no?, if?, ◌and◌, test, Holds, holds, tests, and_both}
use Rattle.laws.specs.Table.{every, at_every}
use Rattle.words.specs.declared.Config.{Config}
use Rattle.words.specs.declared.Instruction.{Instruction}
use Rattle.words.specs.declared.Form.{Form}
use Rattle.words.specs.declared.Form.TheVariants.{Signed, Unsigned, Shifted}
use Rattle.words.specs.declared.Refusal.{Refusal}
use Rattle.words.specs.declared.Refusal.TheVariants.{Unlawful, NoRow, Unavailable, OutOfRange}
use Rattle.std.specs.Prelude.{Err}
use Rattle.words.specs.Parts.{never, needs}
use Rattle.words.specs.Kinds.{marks_of}
use Rattle.words.specs.Kinds.{Operand, from_register, literal, short_literal, counted}
use Rattle.words.specs.Kinds.{Kind, unsupported, compute, compare, multiply, bytewise, load_index, index_store, index_load, move, load_constant, load_register, load_direct, store_register, store_direct, port_read, port_modify, port_write, jump, branch, jump_register, branch_register, call, call_register, ret, ret_constant, enter_bank, leave_bank, enter_special, leave_special}
use Rattle.words.specs.Rows.{rows, row_count, row_at}
use Rattle.words.specs.Codes.{form_at, condition_at}
use Rattle.words.specs.Configs.{lawful}
use Rattle.words.specs.Classes.{class_of, row_of}
use Rattle.words.specs.Words.{Read, zeros, spread, fields_in, parts_by, parts_of, read_lawful, read_of}
use Rattle.words.specs.Answers.{refusal_number, reading_of}
use Rattle.words.specs.Claims.{understood}
use Rattle.words.specs.Facts.{facts_for}
use Rattle.words.specs.Actions.{flag', destination', source', number', value', target', unit', actions, entries}
use Rattle.words.specs.Lookup.{entry_at, entry_of, action_at, entry_kind, within_limits, Agrees}
use Rattle.words.proofs.Checks.{alike, alike_is, isnt_it}
use Rattle.words.proofs.Lookup.{read_row, quick, agrees}
use Rattle.words.proofs.Quick.{within_quick}
use Rattle.words.proofs.Answers.{lawful_read}
use Rattle.arith.specs.Width.{one}
use Rattle.arith.proofs.Fits.{bits_width, immediate_answer_fits}
use Rattle.state.specs.Operands.{constant, condition_met}
use Rattle.state.specs.Step.{cycles_of}
use Rattle.cells.specs.Cell.{operand_value, value_of, taken_of, packed, leaving, first_apart, cell_for, cell_of}
use Rattle.cells.specs.Templates.{form_source, operand_source, value_source, value_from, template_of, cost_of, filled}
use Rattle.cells.proofs.templates.Laws.{past_entries, template_past}

-- Values

-- whether u, the parts that an action reads, has the part of mark m
abbrev marked : ℕ → ℕ → Test
marked m u = yes? (eqb (u / m % 2) 1)

-- an action of parts u reads what the value of its kind comes from
abbrev operand_reads : Operand → ℕ → Test
operand_reads from_register u = yes? true
operand_reads (literal f) u = marked value' u
operand_reads short_literal u = yes? true
operand_reads counted u = marked value' u

abbrev value_reads : Kind → ℕ → Test
value_reads unsupported u = yes? true
value_reads (compute o b) u = operand_reads b u
value_reads (compare o b) u = operand_reads b u
value_reads (multiply b) u = operand_reads b u
value_reads (bytewise o) u = marked number' u
value_reads load_index u = yes? true
value_reads index_store u = yes? true
value_reads index_load u = yes? true
value_reads move u = yes? true
value_reads (load_constant f) u = marked value' u
value_reads load_register u = yes? true
value_reads load_direct u = marked value' u
value_reads store_register u = yes? true
value_reads store_direct u = marked value' u
value_reads port_read u = yes? true
value_reads port_modify u = yes? true
value_reads (port_write b) u = operand_reads b u
value_reads jump u = marked target' u
value_reads (branch k) u = marked target' u
value_reads jump_register u = yes? true
value_reads (branch_register k) u = yes? true
value_reads call u = marked target' u
value_reads call_register u = yes? true
value_reads ret u = yes? true
value_reads ret_constant u = marked value' u
value_reads enter_bank u = marked unit' u and marked value' u
value_reads leave_bank u = yes? true
value_reads enter_special u = yes? false
value_reads leave_special u = yes? false

-- an immediate goes by bits 15-0 alone
constant_low : (c : Config) (f : Form) (v w : ℕ) → v ≡ w % 65536 → constant c f w ≡ constant c f v
constant_low c f v w e = let q : w % 65536 ≡ v % 65536 = omega (arith, e) in rw q

form_value : (c : Config) (f : Form) (v w : ℕ) → v ≡ w % 65536 → value_from c (form_source f) w ≡ constant c f v
unfolding value_from pick
form_value c Signed v w e = constant_low c Signed v w e
form_value c Unsigned v w e = constant_low c Unsigned v w e
form_value c Shifted v w e = constant_low c Shifted v w e

pub immediate_value : (c : Config) (f : Form) (w : ℕ) → value_from c (form_source f) w ≡ constant c f w
unfolding value_from pick
immediate_value c Signed w = refl
immediate_value c Unsigned w = refl
immediate_value c Shifted w = refl

module _ (c : Config) (i : Instruction) (a w : ℕ) (g : Agrees c.regsize a w i) where
  operand_value_lem : (b : Operand) → Holds (operand_reads b (action_at a).uses) → value_from c (operand_source b) w ≡ operand_value c b i.value
  unfolding value_from operand_value pick
  operand_value_lem from_register t = refl
  operand_value_lem (literal f) t = form_value c f i.value w (g.value t)
  operand_value_lem short_literal t = refl
  operand_value_lem counted t = sym (g.value t)

  kind_value : (k : Kind) → Holds (value_reads k (action_at a).uses) → value_from c (value_source k) w ≡ value_of c i k
  unfolding value_from value_source value_of pick
  kind_value unsupported t = refl
  kind_value (compute o b) t = operand_value_lem b t
  kind_value (compare o b) t = operand_value_lem b t
  kind_value (multiply b) t = operand_value_lem b t
  kind_value (bytewise o) t = sym (g.number t)
  kind_value load_index t = refl
  kind_value index_store t = refl
  kind_value index_load t = refl
  kind_value move t = refl
  kind_value (load_constant f) t = form_value c f i.value w (g.value t)
  kind_value load_register t = refl
  kind_value load_direct t = sym (g.value t)
  kind_value store_register t = refl
  kind_value store_direct t = sym (g.value t)
  kind_value port_read t = refl
  kind_value port_modify t = refl
  kind_value (port_write b) t = operand_value_lem b t
  kind_value jump t = sym (g.target t)
  kind_value (branch k) t = sym (g.target t)
  kind_value jump_register t = refl
  kind_value (branch_register k) t = refl
  kind_value call t = sym (g.target t)
  kind_value call_register t = refl
  kind_value ret t = refl
  kind_value ret_constant t = constant_low c Signed i.value w (g.value t)
  kind_value enter_bank t =
      let u = g.unit t.0 in
      let v = g.value t.1 in
      omega (arith, u, v)
  kind_value leave_bank t = refl
  kind_value enter_special t = absurd t
  kind_value leave_special t = absurd t

-- a value is a word

constant_fits : (c : Config) (f : Form) (w : ℕ) → constant c f w < 0x100000000
constant_fits c f w =
    lt_of_lt_of_le (immediate_answer_fits c.regwidth w f) (pow_mono (bits_width c.regwidth).most)

under : (b : Bool) (x y : ℕ) → x < 0x100000000 → y < 0x100000000 → pick b x y < 0x100000000
under b x y p q = either (λ v. v < 0x100000000) b x y (λ t. p) (λ t. q)

pub value_fits : (c : Config) (k w : ℕ) → value_from c k w < 0x100000000
unfolding value_from
value_fits c k w =
    under (eqb k 1) _ _ (constant_fits c Signed w)
    (under (eqb k 2) _ _ (constant_fits c Unsigned w)
    (under (eqb k 3) _ _ (constant_fits c Shifted w)
    (under (eqb k 4) _ _ (omega arith)
    (under (eqb k 5) _ _ (omega arith)
    (under (eqb k 6) _ _ (omega arith)
    (under (eqb k 7) _ _ (omega arith) (under (eqb k 8) _ _ (omega arith) (under (eqb k 9) _ _ (omega arith) (omega arith)))))))))

-- Templates

-- the digits of the template of row n that the loop carries out: t, of action a that reads the parts u, of kind k
abbrev carried_digits : ℕ → ℕ → ℕ → Kind → Test
carried_digits t a u k =
    same (t % 64) a and
    same (t / 0x40 % 2) (u / flag' % 2) and
    same (t / 0x80 % 2) (u / destination' % 2) and
    same (t / 0x100 % 2) (u / source' % 2) and
    yes? (alike (eqb (t / 0x200 % 2) 1) (facts_for k).load) and
    same (t / 0x10000 % 16) (value_source k) and
    same (t / 0x100000 % 16) (taken_of k) and
    same (t / 0x1000000) (2 + one (facts_for k).input) and
    no? ((facts_for k).input && (facts_for k).load) and
    value_reads k u

-- of one that it does not: nothing but the check and the source of the value
abbrev apart_digits : ℕ → ℕ → Test
apart_digits t s = same (t % 0x400) 0 and same (t / 0x10000) s

abbrev template_digits : ℕ → ℕ → Test
template_digits t e =
    same (t / 0x400 % 64) (e % 64) and
    most (t / 0x1000000 + t / 0x200 % 2) 3 and
    if? (ltb (e / 0x4000000) first_apart && not (eqb (e / 0x4000000) 0))
    (carried_digits t (e / 0x4000000) (action_at (e / 0x4000000)).uses (entry_kind e)) and
    if? (eqb (e / 0x4000000) 63) (apart_digits t 8) and
    if? (eqb (e / 0x4000000) 62) (apart_digits t 9) and
    most e 0xffffffff

abbrev template_right : ℕ → Test
template_right n = template_digits (template_of n) (entry_at n) and if? (not (needs (row_at n).option never)) (isnt (entry_at n / 0x4000000) 0)

all_templates : T (every row_count (λ n. test (template_right n)))
unfolding template_of entry_at entries action_at actions form_at condition_at facts_for marks_of taken_of condition_met value_source one pick rows row_at
all_templates = tt

template_at : (n : ℕ) → n < row_count → Holds (template_right n)
template_at n h = holds (template_right n) (at_every row_count (λ m. test (template_right m)) n all_templates h)

-- past the rows it is 0
pub template_check : (n : ℕ) → template_of n / 0x400 % 64 ≡ entry_at n % 64
template_check n = go (ltb n row_count) refl
  where
    go : (b : Bool) → ltb n row_count ≡ b → template_of n / 0x400 % 64 ≡ entry_at n % 64
    go true e = (template_at n (ltb-true n row_count e)).0.0
    go false e = let h = ltb-false n row_count e in rw (past_entries n h, ← template_past n h)

pub template_cost : (n : ℕ) → template_of n / 0x1000000 + template_of n / 0x200 % 2 ≤ 3
template_cost n = go (ltb n row_count) refl
  where
    go : (b : Bool) → ltb n row_count ≡ b → template_of n / 0x1000000 + template_of n / 0x200 % 2 ≤ 3
    go true e = (template_at n (ltb-true n row_count e)).0.1.0
    go false e = let h = ltb-false n row_count e in rw (← template_past n h) (omega arith)

sources_known : T (every row_count (λ n. leb (template_of n / 0x10000 % 16) 9))
unfolding template_of entry_at entries action_at actions form_at condition_at facts_for marks_of taken_of condition_met value_source one pick
sources_known = tt

pub template_known : (n : ℕ) → template_of n / 0x10000 % 16 ≤ 9
template_known n = go (ltb n row_count) refl
  where
    go : (b : Bool) → ltb n row_count ≡ b → template_of n / 0x10000 % 16 ≤ 9
    go true e = leb→le _ _ (at_every row_count (λ m. leb (template_of m / 0x10000 % 16) 9) n sources_known (ltb-true n row_count e))
    go false e = let h = ltb-false n row_count e in rw (← template_past n h) (omega arith)

-- The parts of a cell

picked : (b : Bool) (x y : ℕ) → (T b → x ≡ y) → pick b x 0 ≡ pick b y 0
unfolding pick
picked true x y h = h tt
picked false x y h = refl

-- where d says, as u does, whether a part is read
part_used : (d u x y : ℕ) → d ≡ u → (T (eqb u 1) → x ≡ y) → pick (eqb d 1) x 0 ≡ pick (eqb u 1) y 0
part_used d u x y e h = rw e (picked (eqb u 1) x y h)

-- a port is read or memory is, and not both
waits : (input load p : Bool) → (T (input && load) → ⊥) → 2 + one input + one (load && p) ≡ 2 + one (input || load && p)
unfolding one pick
waits true true p h = absurd (h tt)
waits true false p h = refl
waits false load p h = refl

sums : (C C' A A' X X' S S' D D' F F' N N' : ℕ) → C ≡ C' → A ≡ A' → X ≡ X' → S ≡ S' → D ≡ D' → F ≡ F' → N ≡ N' →
    0x4000000000000000 * C + 0x100000000000000 * A + 0x1000000 * X + 0x10000 * S + 0x100 * D + 0x40 * F + N ≡
    0x4000000000000000 * C' + 0x100000000000000 * A' + 0x1000000 * X' + 0x10000 * S' + 0x100 * D' + 0x40 * F' + N'
sums C C' A A' X X' S S' D D' F F' N N' a b c d e f g = rw (a, b, c, d, e, f, g)

-- a template of nothing but its check and its source gives the value alone
value_alone : (c : Config) (t w s : ℕ) → t % 0x400 ≡ 0 → t / 0x10000 ≡ s → s < 16 → filled c t w ≡ 0x1000000 * value_from c s w
unfolding filled cost_of one pick
value_alone c t w s h e l =
    let a : t / 0x1000000 ≡ 0 = omega (arith, e, l) in
    let b : t / 0x200 % 2 ≡ 0 = omega (arith, h) in
    let d : t / 0x100000 % 16 ≡ 0 = omega (arith, e, l) in
    let f : t / 0x10000 % 16 ≡ s = omega (arith, e, l) in
    let g : t / 0x100 % 2 ≡ 0 = omega (arith, h) in
    let j : t / 0x80 % 2 ≡ 0 = omega (arith, h) in
    let k : t / 0x40 % 2 ≡ 0 = omega (arith, h) in
    let m : t % 64 ≡ 0 = omega (arith, h) in
    rw (a, b, d, f, g, j, k, m) (omega arith)

module _ (c : Config) (w : ℕ) (i : Instruction) (hc : Holds (lawful c)) (hw : w < 0x100000000) (read : read_lawful c w ≡ understood i) where
  -- the parts that the row's action reads
  pub parts_read : Agrees c.regsize (entry_at i.row / 0x4000000) w i
  parts_read = rw (read_row c w i read).3 (agrees c w i hc hw read)

  digits : Holds (template_right i.row)
  digits = template_at i.row (read_row c w i read).0

  pub acts : entry_at i.row / 0x4000000 ≡ 0 → ⊥
  acts = digits.1 (isnt_it (row_at i.row).option never (read_row c w i read).1)

  pub few_actions : entry_at i.row / 0x4000000 < 64
  few_actions = let h = digits.0.1.1.1.1.1 in omega (arith, h)

  module _ (h : entry_at i.row / 0x4000000 < first_apart) where
    carried : Holds (carried_digits (template_of i.row) (entry_at i.row / 0x4000000) (action_at (entry_at i.row / 0x4000000)).uses (entry_kind (entry_at i.row)))
    carried =
        let a = entry_at i.row / 0x4000000 in
        digits.0.1.1.0 (and_both (ltb a first_apart) (not (eqb a 0)) (lt→ltb a first_apart h) (not_T (eqb a 0) (λ t. acts (eqb→eq a 0 t))))

    value_right : value_from c (value_source (entry_kind (entry_at i.row))) w ≡ value_of c i (entry_kind (entry_at i.row))
    value_right =
        kind_value c i (entry_at i.row / 0x4000000) w parts_read (entry_kind (entry_at i.row)) carried.1.1.1.1.1.1.1.1.1

    pub value_below : value_of c i (entry_kind (entry_at i.row)) < 0x100000000
    value_below = rw (sym value_right) (value_fits c (value_source (entry_kind (entry_at i.row))) w)

    cost_right : cost_of c (template_of i.row) ≡ cycles_of c (facts_for (entry_kind (entry_at i.row)))
    unfolding cost_of cycles_of
    cost_right =
        let f = facts_for (entry_kind (entry_at i.row)) in
        rw (carried.1.1.1.1.1.1.1.0, alike_is (eqb (template_of i.row / 0x200 % 2) 1) f.load carried.1.1.1.1.0)
        (waits f.input f.load (not (eqb c.dmpipe 0)) carried.1.1.1.1.1.1.1.1.0)

    packed_right : filled c (template_of i.row) w ≡ packed c i (entry_at i.row)
    unfolding filled
    packed_right =
        let d = carried in
        let g = parts_read in
        sums _ _ _ _ _ _ _ _ _ _ _ _ _ _ cost_right d.1.1.1.1.1.1.0 (rw d.1.1.1.1.1.0 value_right)
        (part_used _ _ _ _ d.1.1.1.0 (λ t. sym (g.source t).0))
        (part_used _ _ _ _ d.1.1.0 (λ t. sym (g.destination t).0))
        (part_used _ _ _ _ d.1.0 (λ t. sym (g.flag t)))
        d.0

  -- by its row's template a word gives the cell of its instruction
  pub filled_right : filled c (template_of i.row) w ≡ cell_for c i
  unfolding cell_for value_from pick
  filled_right = go (eqb (entry_at i.row / 0x4000000) 63) refl (eqb (entry_at i.row / 0x4000000) 62) refl
    where
      go : (b : Bool) → eqb (entry_at i.row / 0x4000000) 63 ≡ b → (d : Bool) → eqb (entry_at i.row / 0x4000000) 62 ≡ d →
          filled c (template_of i.row) w ≡ cell_for c i
      go true e d f =
          let q = digits.0.1.1.1.0 (true_is _ e) in
          rw e (value_alone c (template_of i.row) w 8 q.0 q.1 (omega arith))
      go false e true f =
          let q = digits.0.1.1.1.1.0 (true_is _ f) in
          rw (e, f) (value_alone c (template_of i.row) w 9 q.0 q.1 (omega arith))
      go false e false f =
          let p = eqb-false (entry_at i.row / 0x4000000) 63 e in
          let q = eqb-false (entry_at i.row / 0x4000000) 62 f in
          let l = few_actions in
          rw (e, f) (packed_right (omega (arith, p, q, l)))

-- Decoding

-- a word that is read, of row n, by its template t
pub read_cell : (c : Config) (w n t r : ℕ) (i : Instruction) → w < 0x100000000 → n ≡ row_of (class_of (w / 0x800000)) (w % 0x800000) → t ≡ template_of n →
    r ≡ filled c t w → Holds (lawful c) → read_lawful c w ≡ understood i → r ≡ cell_of c w
unfolding cell_of pick parts_of parts_by spread fields_in
read_cell c w n t r i hw p q e hc read =
    let row : i.row ≡ n = ap (λ (j : Instruction). j.row) (read_row c w i read).2 ∙ sym p in
    rw (e, q, sym row, read) (filled_right c w i hc hw read)

-- one that is within the limits of its check
pub quick_cell : (c : Config) (w n t r : ℕ) (b : Bool) → w < 0x100000000 → n ≡ row_of (class_of (w / 0x800000)) (w % 0x800000) → t ≡ template_of n →
    b ≡ within_limits c (t / 0x400 % 64) w → b ≡ true → r ≡ filled c t w → Holds (lawful c) → r ≡ cell_of c w
unfolding entry_of
quick_cell c w n t r b hw p q e z f hc =
    let check : t / 0x400 % 64 ≡ entry_of w % 64 = rw q (template_check n ∙ rw p) in
    read_cell c w n t r (parts_of c w) hw p q f hc (quick c w hc hw (within_quick c w (ap (λ k. within_limits c k w) (sym check) ∙ (sym e ∙ z))))

-- one that is read before it is decoded: under a lawful configuration 1 is passed over
pub answered : (c : Config) (w : ℕ) (r : Read) → Holds (lawful c) → r ≡ read_of c w → r ≡ read_lawful c w
answered c w r hc e = e ∙ sym (lawful_read c w (is_true (test (lawful c)) (tests (lawful c) hc)))

-- one that is refused
pub refused_cell : (c : Config) (w v r : ℕ) (x : Refusal) → reading_of (Err x) ≡ read_lawful c w → v ≡ refusal_number x → r ≡ leaving v → r ≡ cell_of c w
unfolding cell_of reading_of refusal_number pick
refused_cell c w v r x e p q = rw (sym e, q, p) (go x)
  where
    go : (y : Refusal) → leaving (refusal_number y) ≡ pick (eqb (refusal_number y) 0) (cell_for c zeros) (leaving (refusal_number y))
    go Unlawful = refl
    go NoRow = refl
    go Unavailable = refl
    go OutOfRange = refl
