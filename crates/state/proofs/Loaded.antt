-- K4's mark: LDYX sets it and nothing else changes it, and 27 is the stop of MOVX before that.
-- Assumes nothing.
use Prim.Native.Nat.{ℕ, zero, suc}
use mathlib.Core.Path.{◌≡◌, refl, ap, ◌∙◌}
use mathlib.Core.Logic.{◌⊎◌, inl, inr}
use mathlib.Core.Bool.{Bool, true, false}
use mathlib.Core.List.{List, [], ◌∷◌, ◌++◌}
use native.Mathlib.Omega.{arith}
use lib.Dec.{T, eqb, eqb→eq}
use Rattle.laws.specs.Choice.{pick, either}
use Rattle.laws.specs.Test.{Test, less, Holds, eq→eqb}
use Rattle.laws.specs.First.{first_failing, skip, none_fails, allowed}
use Rattle.laws.specs.Lists.{◌also◌}
use Rattle.words.specs.declared.Instruction.{Instruction}
use Rattle.words.specs.Rows.{row_at}
use Rattle.words.specs.Words.{refusals567}
use Rattle.words.specs.Kinds.{Kind, marks_of, unsupported, compute, compare, multiply, bytewise, load_index, index_store, index_load, move, load_constant, load_register, load_direct, store_register, store_direct, port_read, port_modify, port_write, jump, branch, jump_register, branch_register, call, call_register, ret, ret_constant, enter_bank, leave_bank, enter_special, leave_special}
use Rattle.words.specs.Facts.{facts_for}
use Rattle.state.specs.declared.Core.{Core}
use Rattle.state.specs.State.{Env, State}
use Rattle.state.specs.Ranges.{guards, run_guards}
use Rattle.state.specs.Operands.{View, view_of}
use Rattle.state.specs.Plans.{compare_plan, compute_plan, multiply_plan, load_index_plan, advanced, index_store_plan, index_load_plan, move_plan, load_constant_plan, load_register_plan, load_direct_plan, store_register_plan, store_direct_plan, port_read_plan, port_write_plan, port_modify_plan, jump_plan, branch_plan, jump_register_plan, branch_register_plan, call_plan, call_register_plan, ret_plan, ret_constant_plan, enter_bank_plan, leave_bank_plan, enter_special_plan, leave_special_plan, plan_of}
use Rattle.state.specs.Stops.{stop8, stop27, stops9to15, stops, parts_at, kind_at, facts_at}
use Rattle.state.specs.Step.{Outcome, refused, number, applied, plan_at, advance_of, step_of}
use Rattle.state.specs.Run.{Run, ended, after, run_of, run_call}
use Rattle.state.specs.Loaded.{Movx, to_memory, from_memory, Reached, loaded_after, loaded_along, Remembers}
use Rattle.state.proofs.Calls.{advance_applies, step_applies}

-- the mark that a plan leaves

pick_loaded : (b : Bool) (x y : Core) (m : ℕ) → x.loaded ≡ m → y.loaded ≡ m → (pick b x y).loaded ≡ m
unfolding pick
pick_loaded true x y m p q = p
pick_loaded false x y m p q = q

plan_loaded : (v : View) (i : Instruction) (k : Kind) → (plan_of v i k).core.loaded ≡ loaded_after k v.core.loaded
unfolding loaded_after plan_of compare_plan compute_plan multiply_plan load_index_plan advanced index_store_plan index_load_plan move_plan load_constant_plan load_register_plan load_direct_plan store_register_plan store_direct_plan port_read_plan port_write_plan port_modify_plan jump_plan branch_plan jump_register_plan branch_register_plan call_plan call_register_plan ret_plan ret_constant_plan enter_bank_plan leave_bank_plan enter_special_plan leave_special_plan
plan_loaded v i unsupported = refl
plan_loaded v i (compute o x) = refl
plan_loaded v i (compare o x) = refl
plan_loaded v i (multiply x) = refl
plan_loaded v i (bytewise o) = refl
plan_loaded v i load_index = refl
plan_loaded v i index_store = refl
plan_loaded v i index_load = refl
plan_loaded v i move = refl
plan_loaded v i (load_constant f) = refl
plan_loaded v i load_register = refl
plan_loaded v i load_direct = refl
plan_loaded v i store_register = refl
plan_loaded v i store_direct = refl
plan_loaded v i port_read = refl
plan_loaded v i port_modify = refl
plan_loaded v i (port_write x) = refl
plan_loaded v i jump = refl
plan_loaded v i (branch c) = pick_loaded _ _ _ _ refl refl
plan_loaded v i jump_register = refl
plan_loaded v i (branch_register c) = pick_loaded _ _ _ _ refl refl
plan_loaded v i call = refl
plan_loaded v i call_register = refl
plan_loaded v i ret = refl
plan_loaded v i ret_constant = refl
plan_loaded v i enter_bank = refl
plan_loaded v i leave_bank = refl
plan_loaded v i enter_special = refl
plan_loaded v i leave_special = refl

-- and so a step that is carried out

advance_loaded : (e : Env) (s : State) → (advance_of e s).number ≡ 0 → (advance_of e s).state.core.loaded ≡ loaded_after (kind_at e s) s.core.loaded
unfolding applied plan_at
advance_loaded e s z = ap (λ t. t.core.loaded) (advance_applies e s z).made ∙ plan_loaded (view_of e s) (parts_at e s) (kind_at e s)

step_loaded : (e : Env) (s : State) → (step_of e s).number ≡ 0 → (step_of e s).state.core.loaded ≡ loaded_after (kind_at e s) s.core.loaded
unfolding applied plan_at
step_loaded e s z = ap (λ t. t.core.loaded) (step_applies e s z).made ∙ plan_loaded (view_of e s) (parts_at e s) (kind_at e s)

-- and a run

abbrev Along : Env → State → Run → Type 0
Along e s r = r.last.core.loaded ≡ loaded_along e r.seen s.core.loaded

run_along : (budget : ℕ) (e : Env) (s : State) → Along e s (run_of budget e s)
unfolding run_of
run_along zero e s = refl
run_along (suc k) e s =
    let o = advance_of e s in
    either (Along e s) (eqb o.number 0) (after s o.cycles (run_of k e o.state)) (ended o.number s)
    (λ t. run_along k e o.state ∙ ap (loaded_along e (run_of k e o.state).seen) (advance_loaded e s (eqb→eq o.number 0 t)))
    (λ f. refl)

call_along : (budget : ℕ) (e : Env) (s : State) → Along e s (run_call budget e s)
unfolding run_call
call_along budget e s =
    let n = first_failing (run_guards budget e s) in
    either (Along e s) (eqb n 0) (run_of budget e s) (ended n s) (λ t. run_along budget e s) (λ f. refl)

-- 27: of 9 to 15 it is the first that stops a MOVX before an LDYX

first_27 : (v : View) (i : Instruction) {k : Kind} → Movx k → v.core.loaded ≡ 0 → first_failing (stops9to15 v i (facts_for k)) ≡ 27
unfolding stops9to15 facts_for marks_of pick
first_27 v i to_memory z = rw z refl
first_27 v i from_memory z = rw z refl

stops_27 : (e : Env) (s : State) → Reached e s → Movx (kind_at e s) → s.core.loaded ≡ 0 → (step_of e s).number ≡ 27
unfolding step_of advance_of number stops refusals567 pick
stops_27 e s h k z =
    let i = parts_at e s in
    let f = facts_at e s in
    let before : List (ℕ × Test) =
    (4, less s.core.pc e.config.imsize) ∷ (refusals567 e.config (row_at i.row) i ++ ((8, stop8 s.core.mode i.source f) ∷ [])) in
    let q : number e s ≡ 27 =
    skip before (stops9to15 (view_of e s) i f) (h.pc also h.reads.0 also h.reads.1.0 also h.reads.1.1.0 also h.mode also tt) ∙
    first_27 (view_of e s) i k z in
    rw (none_fails (guards e s) h.valid, q) refl

-- and it stops nothing else

movx_of : (k : Kind) → T (facts_for k).index → Movx k
unfolding facts_for marks_of
movx_of unsupported t = absurd t
movx_of (compute o x) t = absurd t
movx_of (compare o x) t = absurd t
movx_of (multiply x) t = absurd t
movx_of (bytewise o) t = absurd t
movx_of load_index t = absurd t
movx_of index_store t = to_memory
movx_of index_load t = from_memory
movx_of move t = absurd t
movx_of (load_constant f) t = absurd t
movx_of load_register t = absurd t
movx_of load_direct t = absurd t
movx_of store_register t = absurd t
movx_of store_direct t = absurd t
movx_of port_read t = absurd t
movx_of port_modify t = absurd t
movx_of (port_write x) t = absurd t
movx_of jump t = absurd t
movx_of (branch c) t = absurd t
movx_of jump_register t = absurd t
movx_of (branch_register c) t = absurd t
movx_of call t = absurd t
movx_of call_register t = absurd t
movx_of ret t = absurd t
movx_of ret_constant t = absurd t
movx_of enter_bank t = absurd t
movx_of leave_bank t = absurd t
movx_of enter_special t = absurd t
movx_of leave_special t = absurd t

module _ (e : Env) (s : State) where
  abbrev Unloaded : Type 0
  Unloaded = Movx (kind_at e s) × (s.core.loaded ≡ 0)

  other : (n : ℕ) {A : Type 0} → (n ≡ 27 → ⊥) → A ⊎ (n ≡ 27 → Unloaded)
  other n h = inr (λ z. absurd (h z))

  at_27 : Holds (stop27 (view_of e s) (parts_at e s) (facts_at e s)) ⊎ (◌≡◌ {A = ℕ} 27 27 → Unloaded)
  at_27 = choose (facts_at e s).index refl (eqb s.core.loaded 0) refl
    where
      choose : (a : Bool) → (facts_at e s).index ≡ a → (b : Bool) → eqb s.core.loaded 0 ≡ b →
          (T (facts_at e s).index → s.core.loaded ≡ 0 → ⊥) ⊎ (◌≡◌ {A = ℕ} 27 27 → Unloaded)
      choose false p b q = inl (rw p (λ t. absurd t))
      choose true p true q = inr (λ _. (movx_of (kind_at e s) (rw p tt), eqb→eq s.core.loaded 0 (rw q tt)))
      choose true p false q = inl (λ t z. let x = eq→eqb s.core.loaded 0 z in rw q at x)

  number_27 : number e s ≡ 27 → Unloaded
  unfolding number stops refusals567 stops9to15
  number_27 =
      allowed (λ n. n ≡ 27 → Unloaded) (stops e s) (λ z. let x : ⊥ = omega arith in absurd x)
      (other 4 (λ z. omega arith) also
      other 5 (λ z. omega arith) also
      other 6 (λ z. omega arith) also
      other 7 (λ z. omega arith) also
      other 8 (λ z. omega arith) also
      other 9 (λ z. omega arith) also
      at_27 also
      other 10 (λ z. omega arith) also
      other 11 (λ z. omega arith) also
      other 12 (λ z. omega arith) also
      other 13 (λ z. omega arith) also
      other 14 (λ z. omega arith) also
      other 15 (λ z. omega arith) also
      tt)

  guards_27 : first_failing (guards e s) ≡ 27 → Unloaded
  unfolding guards
  guards_27 =
      allowed (λ n. n ≡ 27 → Unloaded) (guards e s) (λ z. let x : ⊥ = omega arith in absurd x)
      (other 1 (λ z. omega arith) also other 2 (λ z. omega arith) also other 3 (λ z. omega arith) also tt)

  only_27 : (step_of e s).number ≡ 27 → Unloaded
  unfolding step_of advance_of
  only_27 =
      let n = first_failing (guards e s) in
      either (λ (o : Outcome). o.number ≡ 27 → Unloaded) (eqb n 0) (advance_of e s) (refused n s)
      (λ t. either (λ (o : Outcome). o.number ≡ 27 → Unloaded) (eqb (number e s) 0) _ (refused (number e s) s)
      (λ u z. let x : ⊥ = omega arith in absurd x)
      (λ u. number_27))
      (λ f. guards_27)

pub remembers : Remembers
remembers = record { reset = refl; step = step_loaded; run = call_along; stops = stops_27; only = only_27 }
