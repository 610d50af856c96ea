-- One step: what advance.rt decides is `change_at`, and what it carries out is `advance_of`.
-- Assumes nothing.
use Prim.Native.Nat.{ℕ, ◌≤◌, ◌<◌}
use mathlib.Core.Path.{◌≡◌, refl, sym, ap, ◌∙◌}
use mathlib.Core.Bool.{Bool, true, false, ◌&&◌}
use mathlib.Core.List.{List, [], ◌∷◌, ◌++◌, append-nil}
use native.Mathlib.Omega.{arith}
use borrow.Author.Tests.{le-ltb, ne_eqb, eqb-true, eqb-false}
use lib.Dec.{T, ltb, eqb, ltb→lt}
use lib.ListN.{length}
use Rattle.laws.specs.Choice.{pick, either}
use Rattle.laws.specs.Cells.{below_at}
use Rattle.laws.specs.Test.{Test, test, and_left, and_right}
use Rattle.laws.specs.First.{first_failing, positive}
use Rattle.words.specs.declared.Instruction.{Instruction}
use Rattle.words.specs.Facts.{facts_for}
use Rattle.words.specs.Kinds.{Kind, marks_of, unsupported, compute, compare, multiply, bytewise, load_index, index_store, index_load, move, load_constant, load_register, load_direct, store_register, store_direct, port_read, port_modify, port_write, jump, branch, jump_register, branch_register, call, call_register, ret, ret_constant, enter_bank, leave_bank, enter_special, leave_special}
use Rattle.words.specs.Words.{refusals567}
use Rattle.state.specs.declared.Core.{Core}
use Rattle.state.specs.declared.Change.{Change}
use Rattle.state.specs.State.{Env, State, top, stack_limit}
use Rattle.state.specs.Cores.{stopped}
use Rattle.state.specs.Operands.{View, view_of}
use Rattle.state.specs.Context.{context_of}
use Rattle.state.specs.Plans.{advanced, compare_plan, compute_plan, multiply_plan, load_index_plan, index_store_plan, index_load_plan, move_plan, load_constant_plan, load_register_plan, load_direct_plan, store_register_plan, store_direct_plan, port_read_plan, port_write_plan, port_modify_plan, jump_plan, branch_plan, jump_register_plan, branch_register_plan, call_plan, call_register_plan, ret_plan, ret_constant_plan, enter_bank_plan, leave_bank_plan, enter_special_plan, leave_special_plan, plan_of}
use Rattle.state.specs.Stops.{stops9to15, parts_at, kind_at, facts_at, stops}
use Rattle.state.specs.Step.{number, applied, plan_at, cycles_of, Outcome, refused, advance_of}
use Rattle.state.specs.Good.{Good}
use Rattle.state.proofs.Ranges.{bounds, top_byte}
use Rattle.state.specs.Landing.{Landing}
use Rattle.state.proofs.StaysValid.{lands}
use Rattle.cells.specs.Cell.{Inside}
use Rattle.machine.specs.Exec.{unless, change_at, Small, Fit, Placed}

-- a stop, or what the rest of the list decides
pub unless_first : (xs ys : List (ℕ × Test)) (m : Core) (x : Change) → T (positive xs) →
    unless (xs ++ ys) m x ≡ pick (eqb (first_failing xs) 0) (unless ys m x) (stopped m (first_failing xs))
unfolding pick
unless_first [] ys m x t = refl
unless_first (r ∷ rs) ys m x t =
    go (test r.1) (unless_first rs ys m x (and_right (ltb 0 r.0) (positive rs) t))
    (ltb→lt 0 r.0 (and_left (ltb 0 r.0) (positive rs) t))
  where
    go : (b : Bool) → unless (rs ++ ys) m x ≡ pick (eqb (first_failing rs) 0) (unless ys m x) (stopped m (first_failing rs)) → 0 < r.0 →
        pick b (unless (rs ++ ys) m x) (stopped m r.0) ≡
        pick (eqb (pick b (first_failing rs) r.0) 0) (unless ys m x) (stopped m (pick b (first_failing rs) r.0))
    go true ih h = ih
    go false ih h = simp (ne_eqb r.0 0 (λ e. omega arith))

pub unless_all : (xs : List (ℕ × Test)) (m : Core) (x : Change) → T (positive xs) →
    unless xs m x ≡ pick (eqb (first_failing xs) 0) x (stopped m (first_failing xs))
unless_all xs m x t = ap (λ (l : List (ℕ × Test)). unless l m x) (sym (append-nil xs)) ∙ unless_first xs [] m x t

-- the first number that fails is below what every number is below
abbrev under : ℕ → List (ℕ × Test) → Bool
under n [] = true
under n (r ∷ rs) = ltb r.0 n && under n rs

first_under : (n : ℕ) (rs : List (ℕ × Test)) → 0 < n → T (under n rs) → first_failing rs < n
first_under n [] h t = h
first_under n (r ∷ rs) h t =
    either (λ (k : ℕ). k < n) (test r.1) (first_failing rs) r.0 (λ _. first_under n rs h (and_right (ltb r.0 n) (under n rs) t))
    (λ _. ltb→lt r.0 n (and_left (ltb r.0 n) (under n rs) t))

-- no plan is a stop
plan_stops : (v : View) (i : Instruction) (k : Kind) → (plan_of v i k).stop ≡ 0
unfolding plan_of compare_plan compute_plan multiply_plan load_index_plan index_store_plan index_load_plan move_plan load_constant_plan load_register_plan load_direct_plan store_register_plan store_direct_plan port_read_plan port_write_plan port_modify_plan jump_plan branch_plan jump_register_plan branch_register_plan call_plan call_register_plan ret_plan ret_constant_plan enter_bank_plan leave_bank_plan enter_special_plan leave_special_plan
plan_stops v i unsupported = refl
plan_stops v i (compute o x) = refl
plan_stops v i (compare o x) = refl
plan_stops v i (multiply x) = refl
plan_stops v i (bytewise o) = refl
plan_stops v i load_index = refl
plan_stops v i index_store = refl
plan_stops v i index_load = refl
plan_stops v i move = refl
plan_stops v i (load_constant f) = refl
plan_stops v i load_register = refl
plan_stops v i load_direct = refl
plan_stops v i store_register = refl
plan_stops v i store_direct = refl
plan_stops v i port_read = refl
plan_stops v i port_modify = refl
plan_stops v i (port_write x) = refl
plan_stops v i jump = refl
plan_stops v i (branch c) = refl
plan_stops v i jump_register = refl
plan_stops v i (branch_register c) = refl
plan_stops v i call = refl
plan_stops v i call_register = refl
plan_stops v i ret = refl
plan_stops v i ret_constant = refl
plan_stops v i enter_bank = refl
plan_stops v i leave_bank = refl
plan_stops v i enter_special = refl
plan_stops v i leave_special = refl

-- special-register mode is switched by SPR_ON and SPR_OFF alone

pick_mode : (b : Bool) (x y : Core) (m : ℕ) → x.mode ≡ m → y.mode ≡ m → (pick b x y).mode ≡ m
unfolding pick
pick_mode true x y m p q = p
pick_mode false x y m p q = q

plan_mode : (v : View) (i : Instruction) (k : Kind) → ((facts_for k).enters ≡ true → ⊥) → ((facts_for k).leaves ≡ true → ⊥) → (plan_of v i k).core.mode ≡ v.core.mode
unfolding facts_for marks_of plan_of compare_plan compute_plan multiply_plan load_index_plan index_store_plan index_load_plan move_plan load_constant_plan load_register_plan load_direct_plan store_register_plan store_direct_plan port_read_plan port_write_plan port_modify_plan jump_plan branch_plan jump_register_plan branch_register_plan call_plan call_register_plan ret_plan ret_constant_plan enter_bank_plan leave_bank_plan enter_special_plan leave_special_plan advanced
plan_mode v i unsupported p q = refl
plan_mode v i (compute o x) p q = refl
plan_mode v i (compare o x) p q = refl
plan_mode v i (multiply x) p q = refl
plan_mode v i (bytewise o) p q = refl
plan_mode v i load_index p q = refl
plan_mode v i index_store p q = refl
plan_mode v i index_load p q = refl
plan_mode v i move p q = refl
plan_mode v i (load_constant f) p q = refl
plan_mode v i load_register p q = refl
plan_mode v i load_direct p q = refl
plan_mode v i store_register p q = refl
plan_mode v i store_direct p q = refl
plan_mode v i port_read p q = refl
plan_mode v i port_modify p q = refl
plan_mode v i (port_write x) p q = refl
plan_mode v i jump p q = refl
plan_mode v i (branch c) p q = pick_mode _ _ _ _ refl refl
plan_mode v i jump_register p q = refl
plan_mode v i (branch_register c) p q = pick_mode _ _ _ _ refl refl
plan_mode v i call p q = refl
plan_mode v i call_register p q = refl
plan_mode v i ret p q = refl
plan_mode v i ret_constant p q = refl
plan_mode v i enter_bank p q = refl
plan_mode v i leave_bank p q = refl
plan_mode v i enter_special p q = absurd (p refl)
plan_mode v i leave_special p q = absurd (q refl)

module _ (e : Env) (s : State) where
  -- 4
  pub outside : e.config.imsize ≤ s.core.pc → stopped s.core 4 ≡ change_at e s
  unfolding change_at stops pick
  outside h = rw (le-ltb _ _ h)

  -- the change is the plan's or a stop's
  changed : change_at e s ≡ pick (eqb (number e s) 0) (plan_at e s) (stopped s.core (number e s))
  unfolding change_at number stops refusals567 stops9to15
  changed = unless_all (stops e s) s.core (plan_at e s) tt

  changed_plan : eqb (number e s) 0 ≡ true → change_at e s ≡ plan_at e s
  unfolding pick
  changed_plan q = changed ∙ rw q

  changed_stop : eqb (number e s) 0 ≡ false → change_at e s ≡ stopped s.core (number e s)
  unfolding pick
  changed_stop q = changed ∙ rw q

  plan_stop : (plan_at e s).stop ≡ 0
  unfolding plan_at
  plan_stop = plan_stops (view_of e s) (parts_at e s) (kind_at e s)

  -- its stop is one of document 01's numbers
  pub stop_small : (change_at e s).stop < 256
  unfolding number stops refusals567 stops9to15
  stop_small =
      rw changed
      (either (λ (x : Change). x.stop < 256) (eqb (number e s) 0) (plan_at e s) (stopped s.core (number e s)) (λ _. rw plan_stop (omega arith))
      (λ _. first_under 256 (stops e s) (omega arith) tt))

  -- a step that is not stopped leaves the mode, but for SPR_ON and SPR_OFF
  pub mode_kept : (x : Change) → x ≡ change_at e s → x.stop ≡ 0 → ((facts_at e s).enters ≡ true → ⊥) → ((facts_at e s).leaves ≡ true → ⊥) →
      x.core.mode ≡ s.core.mode
  unfolding plan_at
  mode_kept x p h en le = go (eqb (number e s) 0) refl
    where
      go : (b : Bool) → eqb (number e s) 0 ≡ b → x.core.mode ≡ s.core.mode
      go true q = ap (λ (y : Change). y.core.mode) (p ∙ changed_plan q) ∙ plan_mode (view_of e s) (parts_at e s) (kind_at e s) en le
      go false q =
          let z : x.stop ≡ number e s = ap (λ (y : Change). y.stop) (p ∙ changed_stop q) in
          absurd (eqb-false (number e s) 0 q (sym z ∙ h))

  -- a stop: the step is refused with it
  pub refused_by : (x : Change) → x ≡ change_at e s → (x.stop ≡ 0 → ⊥) → refused x.stop s ≡ advance_of e s
  unfolding advance_of pick
  refused_by x p h = go (eqb (number e s) 0) refl
    where
      go : (b : Bool) → eqb (number e s) 0 ≡ b → refused x.stop s ≡
          pick b (record { number = 0; cycles = cycles_of e.config (facts_at e s); state = applied (plan_at e s) s }) (refused (number e s) s)
      go true q =
          absurd (h (ap (λ (y : Change). y.stop) (p ∙ changed_plan q) ∙ plan_stop))
      go false q =
          let z : x.stop ≡ number e s = ap (λ (y : Change). y.stop) (p ∙ changed_stop q) in
          rw z

  -- no stop: the change is carried out
  pub carried_out : (x : Change) (k : ℕ) → x ≡ change_at e s → x.stop ≡ 0 → k ≡ cycles_of e.config (facts_at e s) →
      ◌≡◌ {A = Outcome} (record { number = 0; cycles = k; state = applied x s }) (advance_of e s)
  unfolding advance_of pick
  carried_out x k p h q = go (eqb (number e s) 0) refl
    where
      go : (b : Bool) → eqb (number e s) 0 ≡ b → ◌≡◌ {A = Outcome} (record { number = 0; cycles = k; state = applied x s })
          (pick b (record { number = 0; cycles = cycles_of e.config (facts_at e s); state = applied (plan_at e s) s }) (refused (number e s) s))
      go true r =
          let z : x ≡ plan_at e s = p ∙ changed_plan r in
          rw (z, q)
      go false r =
          let z : x.stop ≡ number e s = ap (λ (y : Change). y.stop) (p ∙ changed_stop r) in
          absurd (eqb-false (number e s) 0 r (sym z ∙ h))

  -- what is carried out falls on cells that are there
  pub landing_here : (x : Change) → Good e s → length s.stack ≡ 63 → x ≡ change_at e s → x.stop ≡ 0 →
      Landing (length s.registers) (length s.memory) (length s.addresses) x × (length s.stack ≡ 63) × (length s.values ≡ length s.addresses)
  landing_here x g l p h = (rw (g.registers, g.memory) (go (eqb (number e s) 0) refl), l, sym g.log)
    where
      go : (b : Bool) → eqb (number e s) 0 ≡ b → Landing e.config.rmsize e.config.dmsize (length s.addresses) x
      go true r = rw (p ∙ changed_plan r) (lands e s g (eqb-true (number e s) 0 r))
      go false r =
          let z : x.stop ≡ number e s = ap (λ (y : Change). y.stop) (p ∙ changed_stop r) in
          absurd (eqb-false (number e s) 0 r (sym z ∙ h))

  -- no sum of a good state's core is too large
  pub sums_fit : Good e s → Small s.core
  sums_fit g =
      let b = bounds e.config g.lawful in
      let m = g.core in
      record { pc = m.pc; wp = omega arith; rx = omega arith; depth = omega arith }

  -- the code's sums are small, and its registers are there
  pub ready : (limit x : ℕ) → Good e s → limit ≡ stack_limit e.config.pcstack → length s.stack ≡ 63 → Inside e.config x →
      Fit e.config s.core s.registers × (context_of s.core < 4294967296) × (length s.memory ≡ e.config.dmsize) ×
      (limit ≡ stack_limit e.config.pcstack) ×
      (s.core.depth ≤ length s.stack) ×
      Placed s.core (length s.registers) x
  unfolding context_of
  ready limit x g q l n =
      let b = bounds e.config g.lawful in
      let m = g.core in
      let t = top_byte e.config in
      let fit : Fit e.config s.core s.registers =
      record {
        lawful = g.lawful;
        small = sums_fit g;
        index = omega (arith, m.bank.inside, g.registers, m.indices.x);
        bank = omega (arith, m.bank.inside, g.registers);
        words = λ i. below_at (top e.config) s.registers i (omega (arith, t)) g.cells;
        negative = m.flags.negative;
        zero = m.flags.zero;
      } in
      let context : context_of s.core < 4294967296 = omega arith in
      let placed : Placed s.core (length s.registers) x =
      record {
        wp = omega arith;
        upper = omega (arith, m.bank.inside, g.registers, n.destination);
        lower = omega (arith, m.bank.inside, g.registers, n.source);
      } in
      (fit, context, g.memory, q, omega (arith, l), placed)
