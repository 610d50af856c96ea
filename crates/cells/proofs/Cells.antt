-- What the cell of a word says of the word: the laws by which a machine that looks at the cell alone does what the word says.
-- Assumes nothing.
use Prim.Native.Nat.{ℕ, ◌+◌, ◌*◌, ◌/◌, ◌%◌, ◌<◌}
use mathlib.Core.Path.{◌≡◌, refl, sym, ap, ◌∙◌}
use mathlib.Core.Bool.{Bool, true, false}
use mathlib.Core.List.{[], ◌∷◌}
use mathlib.Core.Logic.{inl, inr}
use native.Mathlib.Omega.{arith}
use borrow.Author.Tests.{ltb-true, ltb-false, eqb-true, eqb-false, ne_eqb}
use lib.Dec.{ltb, ltb→lt, eqb}
use Rattle.laws.specs.Choice.{pick, pick_yes, either}
use Rattle.laws.specs.Test.{Holds, Member}
use Rattle.laws.specs.Lists.{all_at}
use Rattle.laws.specs.First.{allowed}
use Rattle.words.specs.declared.Config.{Config}
use Rattle.words.specs.declared.Instruction.{Instruction}
use Rattle.words.specs.Kinds.{Condition}
use Rattle.words.specs.Kinds.{Kind, unsupported, compute, compare, multiply, bytewise, load_index, index_store, index_load, move, load_constant, load_register, load_direct, store_register, store_direct, port_read, port_modify, port_write, jump, branch, jump_register, branch_register, call, call_register, ret, ret_constant, enter_bank, leave_bank, enter_special, leave_special}
use Rattle.words.specs.Configs.{register_sizes, lawful}
use Rattle.words.specs.Rows.{row_at}
use Rattle.words.specs.Words.{Read, refusals567, answered, parts_by, read_by, read_lawful}
use Rattle.words.specs.Classes.{class_of}
use Rattle.words.specs.Claims.{understood}
use Rattle.words.specs.Facts.{facts_for}
use Rattle.words.specs.Actions.{flag', destination', source'}
use Rattle.words.specs.Lookup.{entry_at, action_at, entry_kind, reads}
use Rattle.arith.proofs.Fits.{one_le}
use Rattle.state.specs.Operands.{condition_met}
use Rattle.state.specs.Step.{cycles_of}
use Rattle.cells.specs.Cell.{action_in, flag_in, destination_in, source_in, value_in, taken_in, cycles_in, value_of, answers_of, taken_of, used, packed, leaving, turns_on, turns_off, first_apart, cell_for, cell_of, Inside, Carries}
use Rattle.cells.proofs.Filled.{parts_read, acts, few_actions, value_below}

-- Digits

-- the parts of cell x: action n, flag f, destination d, source s, value v, taken t, cycles k
record Parts (x n f d s v t k : ℕ) : Type 0 where
  action : action_in x ≡ n
  flag : flag_in x ≡ f
  destination : destination_in x ≡ d
  source : source_in x ≡ s
  value : value_in x ≡ v
  taken : taken_in x ≡ t
  cycles : cycles_in x ≡ k

unpacked : (k t v s d f n : ℕ) → t < 16 → v < 0x100000000 → s < 256 → d < 256 → f < 2 → n < 64 →
    Parts (0x4000000000000000 * k + 0x100000000000000 * t + 0x1000000 * v + 0x10000 * s + 0x100 * d + 0x40 * f + n) n f d s v t k
unfolding action_in flag_in destination_in source_in value_in taken_in cycles_in
unpacked k t v s d f n ht hv hs hd hf hn =
    record {
      action = omega arith;
      flag = omega arith;
      destination = omega arith;
      source = omega arith;
      value = omega arith;
      taken = omega arith;
      cycles = omega arith;
    }

-- a cell that is not carried out
left_action : (n : ℕ) → action_in (leaving n) ≡ 0
unfolding action_in
left_action n = omega arith

left_value : (n : ℕ) → n < 0x100000000 → value_in (leaving n) ≡ n
unfolding value_in
left_value n h = omega (arith, h)

-- Ranges

answers_below : (k : Condition) → answers_of k < 16
answers_below k =
    let a = one_le (condition_met k 0 0) in
    let b = one_le (condition_met k 0 1) in
    let c = one_le (condition_met k 1 0) in
    let d = one_le (condition_met k 1 1) in
    omega (arith, a, b, c, d)

taken_below : (k : Kind) → taken_of k < 16
unfolding taken_of
taken_below unsupported = omega arith
taken_below (compute o b) = omega arith
taken_below (compare o b) = omega arith
taken_below (multiply b) = omega arith
taken_below (bytewise o) = omega arith
taken_below load_index = omega arith
taken_below index_store = omega arith
taken_below index_load = omega arith
taken_below move = omega arith
taken_below (load_constant f) = omega arith
taken_below load_register = omega arith
taken_below load_direct = omega arith
taken_below store_register = omega arith
taken_below store_direct = omega arith
taken_below port_read = omega arith
taken_below port_modify = omega arith
taken_below (port_write b) = omega arith
taken_below jump = omega arith
taken_below (branch k) = answers_below k
taken_below jump_register = omega arith
taken_below (branch_register k) = answers_below k
taken_below call = omega arith
taken_below call_register = omega arith
taken_below ret = omega arith
taken_below ret_constant = omega arith
taken_below enter_bank = omega arith
taken_below leave_bank = omega arith
taken_below enter_special = omega arith
taken_below leave_special = omega arith

-- a part that is 0 where it is not read
used_below : (m a v b : ℕ) → 0 < b → (reads m a → v < b) → used m a v < b
used_below m a v b z h = either (λ (x : ℕ). x < b) (eqb ((action_at a).uses / m % 2) 1) v 0 h (λ t. z)

used_is : (m a v : ℕ) → reads m a → used m a v ≡ v
used_is m a v t = pick_yes (eqb ((action_at a).uses / m % 2) 1) v 0 t

some_registers : (c : Config) → Holds (lawful c) → 0 < c.regsize
unfolding lawful
some_registers c h = ltb→lt 0 c.regsize (all_at (λ v. ltb 0 v) register_sizes c.regsize tt h.1.0.1)

-- A word that is read

cell_of_read : (c : Config) (w : ℕ) (i : Instruction) → read_lawful c w ≡ understood i → cell_of c w ≡ cell_for c i
unfolding cell_of pick
cell_of_read c w i e = rw e

cell_packed : (c : Config) (w : ℕ) (i : Instruction) → read_lawful c w ≡ understood i → entry_at i.row / 0x4000000 < first_apart →
    cell_of c w ≡ packed c i (entry_at i.row)
unfolding cell_for pick
cell_packed c w i e h =
    let a = entry_at i.row / 0x4000000 in
    cell_of_read c w i e ∙ rw (ne_eqb a 63 (λ q. omega (arith, h, q)), ne_eqb a 62 (λ q. omega (arith, h, q)))

cell_apart : (c : Config) (w : ℕ) (i : Instruction) → read_lawful c w ≡ understood i → entry_at i.row / 0x4000000 ≡ 63 → cell_of c w ≡ leaving turns_on
unfolding cell_for pick
cell_apart c w i e h = cell_of_read c w i e ∙ rw h

cell_apart_off : (c : Config) (w : ℕ) (i : Instruction) → read_lawful c w ≡ understood i → entry_at i.row / 0x4000000 ≡ 62 → cell_of c w ≡ leaving turns_off
unfolding cell_for pick
cell_apart_off c w i e h = cell_of_read c w i e ∙ rw h

pub cell_on : (c : Config) (w : ℕ) (i : Instruction) → read_lawful c w ≡ understood i → entry_at i.row / 0x4000000 ≡ 63 →
    (action_in (cell_of c w) ≡ 0) × (value_in (cell_of c w) ≡ turns_on)
cell_on c w i e h = rw (cell_apart c w i e h) (left_action turns_on, left_value turns_on (omega arith))

pub cell_off : (c : Config) (w : ℕ) (i : Instruction) → read_lawful c w ≡ understood i → entry_at i.row / 0x4000000 ≡ 62 →
    (action_in (cell_of c w) ≡ 0) × (value_in (cell_of c w) ≡ turns_off)
cell_off c w i e h = rw (cell_apart_off c w i e h) (left_action turns_off, left_value turns_off (omega arith))

-- one that the loop carries out
module _
    (c : Config) (w : ℕ) (i : Instruction) (hc : Holds (lawful c)) (hw : w < 0x100000000) (read : read_lawful c w ≡ understood i)
    (h : entry_at i.row / 0x4000000 < first_apart) where
  parts_in : Parts (cell_of c w) (entry_at i.row / 0x4000000) (used flag' (entry_at i.row / 0x4000000) i.flag)
      (used destination' (entry_at i.row / 0x4000000) i.destination)
      (used source' (entry_at i.row / 0x4000000) i.source)
      (value_of c i (entry_kind (entry_at i.row)))
      (taken_of (entry_kind (entry_at i.row)))
      (cycles_of c (facts_for (entry_kind (entry_at i.row))))
  parts_in =
      let a = entry_at i.row / 0x4000000 in
      let g = parts_read c w i hc hw read in
      rw (cell_packed c w i read h)
      (unpacked _ _ _ _ _ _ _ (taken_below (entry_kind (entry_at i.row))) (value_below c w i hc hw read h)
      (used_below source' a i.source 256 (omega arith) (λ t. let q = (g.source t).0 in omega (arith, q)))
      (used_below destination' a i.destination 256 (omega arith) (λ t. let q = (g.destination t).0 in omega (arith, q)))
      (used_below flag' a i.flag 2 (omega arith) (λ t. let q = g.flag t in omega (arith, q)))
      (omega (arith, h)))

  pub cell_carries : Carries c (cell_of c w) (entry_at i.row) i
  cell_carries =
      let p = parts_in in
      let a = entry_at i.row / 0x4000000 in
      record {
        action = p.action;
        carried_out = h;
        flag = λ t. p.flag ∙ used_is flag' a i.flag t;
        destination = λ t. p.destination ∙ used_is destination' a i.destination t;
        source = λ t. p.source ∙ used_is source' a i.source t;
        value = p.value;
        taken = p.taken;
      }

  pub cell_cycles : cycles_in (cell_of c w) ≡ cycles_of c (facts_for (entry_kind (entry_at i.row)))
  cell_cycles = parts_in.cycles

  -- it has an action
  pub carried_action : action_in (cell_of c w) ≡ 0 → ⊥
  carried_action e = acts c w i hc hw read (sym parts_in.action ∙ e)

  carried_inside : Inside c (cell_of c w)
  carried_inside =
      let p = parts_in in
      let a = entry_at i.row / 0x4000000 in
      let g = parts_read c w i hc hw read in
      record {
        destination = rw p.destination (used_below destination' a i.destination c.regsize (some_registers c hc) (λ t. (g.destination t).1));
        source = rw p.source (used_below source' a i.source c.regsize (some_registers c hc) (λ t. (g.source t).1));
      }

-- A word that is refused

abbrev Number : ℕ → Type 0
Number n = Member n (0 ∷ 5 ∷ 6 ∷ 7 ∷ [])

number_of : (c : Config) (w : ℕ) → Number (read_lawful c w).number
unfolding read_lawful read_by answered refusals567
number_of c w =
    let i = parts_by class_of row_at c w in
    allowed Number (refusals567 c (row_at i.row) i) (inl refl) (inr (inr (inl refl)), (inr (inr (inr (inl refl))), (inr (inr (inr (inr refl))), tt)))

small_number : (n : ℕ) → Number n → n < 0x100000000
small_number n (inl e) = omega (arith, e)
small_number n (inr (inl e)) = omega (arith, e)
small_number n (inr (inr (inl e))) = omega (arith, e)
small_number n (inr (inr (inr e))) = omega (arith, e)

cell_left : (c : Config) (w n : ℕ) → (read_lawful c w).number ≡ n → (n ≡ 0 → ⊥) → cell_of c w ≡ leaving n
unfolding cell_of pick
cell_left c w n e h = rw (e, ne_eqb n 0 h)

pub cell_refused : (c : Config) (w n : ℕ) → (read_lawful c w).number ≡ n → (n ≡ 0 → ⊥) → (action_in (cell_of c w) ≡ 0) × (value_in (cell_of c w) ≡ n)
cell_refused c w n e h =
    let s = small_number n (rw e at (number_of c w)) in
    rw (cell_left c w n e h) (left_action n, left_value n s)

-- What a cell tells of its word

pub data CellCase (c : Config) (w : ℕ) : Type 0 where
  refused : (n : ℕ) → Member n (5 ∷ 6 ∷ 7 ∷ []) → (read_lawful c w).number ≡ n → action_in (cell_of c w) ≡ 0 → value_in (cell_of c w) ≡ n → CellCase c w
  switched_on : (i : Instruction) → read_lawful c w ≡ understood i → entry_at i.row / 0x4000000 ≡ 63 → action_in (cell_of c w) ≡ 0 →
      value_in (cell_of c w) ≡ turns_on → CellCase c w
  switched_off : (i : Instruction) → read_lawful c w ≡ understood i → entry_at i.row / 0x4000000 ≡ 62 → action_in (cell_of c w) ≡ 0 →
      value_in (cell_of c w) ≡ turns_off → CellCase c w
  carried : (i : Instruction) → read_lawful c w ≡ understood i → entry_at i.row / 0x4000000 < first_apart → (action_in (cell_of c w) ≡ 0 → ⊥) →
      CellCase c w

passed : (r : Read) → r.number ≡ 0 → r ≡ understood r.instruction
passed r e = ap (λ (n : ℕ). record { number = n; instruction = r.instruction }) e

-- where the action lies
data Lies (a : ℕ) : Type 0 where
  below : a < first_apart → Lies a
  off : a ≡ 62 → Lies a
  on : a ≡ 63 → Lies a

lies : (a : ℕ) → a < 64 → Lies a
lies a h = go (ltb a first_apart) refl (eqb a 62) refl
  where
    go : (b : Bool) → ltb a first_apart ≡ b → (d : Bool) → eqb a 62 ≡ d → Lies a
    go true e d f = below (ltb-true a first_apart e)
    go false e true f = off (eqb-true a 62 f)
    go false e false f =
        let p = ltb-false a first_apart e in
        let q = eqb-false a 62 f in
        on (omega (arith, h, p, q))

read_case : (c : Config) (w : ℕ) (i : Instruction) → Holds (lawful c) → w < 0x100000000 → read_lawful c w ≡ understood i → Lies (entry_at i.row / 0x4000000) →
    CellCase c w
read_case c w i hc hw e (below l) = carried i e l (carried_action c w i hc hw e l)
read_case c w i hc hw e (off l) = let p = cell_off c w i e l in switched_off i e l p.0 p.1
read_case c w i hc hw e (on l) = let p = cell_on c w i e l in switched_on i e l p.0 p.1

some_number : (n : ℕ) → Member n (5 ∷ 6 ∷ 7 ∷ []) → n ≡ 0 → ⊥
some_number n (inl e) z = omega (arith, e, z)
some_number n (inr (inl e)) z = omega (arith, e, z)
some_number n (inr (inr e)) z = omega (arith, e, z)

number_case : (c : Config) (w n : ℕ) → Holds (lawful c) → w < 0x100000000 → (read_lawful c w).number ≡ n → Number n → CellCase c w
number_case c w n hc hw e (inl z) =
    let i = (read_lawful c w).instruction in
    let p = passed (read_lawful c w) (e ∙ z) in
    read_case c w i hc hw p (lies (entry_at i.row / 0x4000000) (few_actions c w i hc hw p))
number_case c w n hc hw e (inr m) =
    let p = cell_refused c w n e (some_number n m) in
    refused n m e p.0 p.1

pub cell_told : (c : Config) (w : ℕ) → Holds (lawful c) → w < 0x100000000 → CellCase c w
cell_told c w hc hw = number_case c w (read_lawful c w).number hc hw refl (number_of c w)

-- Registers

left_inside : (c : Config) (n : ℕ) → Holds (lawful c) → Inside c (leaving n)
unfolding destination_in source_in
left_inside c n hc = let h = some_registers c hc in record { destination = omega (arith, h); source = omega (arith, h) }

-- a cell that is not decoded yet
pub zero_inside : (c : Config) → Holds (lawful c) → Inside c 0
unfolding destination_in source_in
zero_inside c hc = let h = some_registers c hc in record { destination = omega (arith, h); source = omega (arith, h) }

inside_by : (c : Config) (w : ℕ) → Holds (lawful c) → w < 0x100000000 → CellCase c w → Inside c (cell_of c w)
inside_by c w hc hw (refused n m e p q) = rw (cell_left c w n e (some_number n m)) (left_inside c n hc)
inside_by c w hc hw (switched_on i e l p q) = rw (cell_apart c w i e l) (left_inside c turns_on hc)
inside_by c w hc hw (switched_off i e l p q) = rw (cell_apart_off c w i e l) (left_inside c turns_off hc)
inside_by c w hc hw (carried i e l p) = carried_inside c w i hc hw e l

pub cell_inside : (c : Config) (w : ℕ) → Holds (lawful c) → w < 0x100000000 → Inside c (cell_of c w)
cell_inside c w hc hw = inside_by c w hc hw (cell_told c w hc hw)
