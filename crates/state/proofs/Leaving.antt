-- Where a step leaves the image: not by a target that stands in its word.
-- Assumes nothing.
use Prim.Native.Nat.{◌+◌, ◌≤◌}
use mathlib.Core.Path.{◌≡◌, refl}
use mathlib.Core.Logic.{◌⊎◌, inl, inr}
use native.Mathlib.Omega.{arith}
use lib.Dec.{T, eqb, eqb→eq}
use Rattle.laws.specs.Choice.{pick, either}
use Rattle.laws.specs.First.{first_failing}
use Rattle.laws.specs.Test.{Holds, eq→eqb}
use Rattle.words.specs.declared.Config.{Config}
use Rattle.words.specs.declared.Instruction.{Instruction}
use Rattle.words.specs.Parts.{target, bank_address, is}
use Rattle.words.specs.Kinds.{Kind, unsupported, compute, compare, multiply, bytewise, load_index, index_store, index_load, move, load_constant, load_register, load_direct, store_register, store_direct, port_read, port_modify, port_write, jump, branch, jump_register, branch_register, call, call_register, ret, ret_constant, enter_bank, leave_bank, enter_special, leave_special}
use Rattle.words.specs.Rows.{Row, row_at}
use Rattle.state.specs.State.{Env, State}
use Rattle.state.specs.Ranges.{guards}
use Rattle.state.specs.Cores.{at}
use Rattle.state.specs.Operands.{View, view_of, condition_met}
use Rattle.state.specs.Plans.{M, compare_plan, compute_plan, multiply_plan, load_index_plan, advanced, index_store_plan, index_load_plan, move_plan, load_constant_plan, load_register_plan, load_direct_plan, store_register_plan, store_direct_plan, port_read_plan, port_write_plan, port_modify_plan, jump_plan, branch_plan, jump_register_plan, branch_register_plan, call_plan, call_register_plan, ret_plan, ret_constant_plan, enter_bank_plan, leave_bank_plan, enter_special_plan, leave_special_plan, plan_of}
use Rattle.state.specs.Stops.{parts_at, kind_at}
use Rattle.state.specs.Step.{Outcome, refused, number, applied, plan_at, advance_of, step_of}
use Rattle.state.specs.Claims.{Elsewhere, jumping, branching, calling, returning, loading, leaving, LeavesImage}
use Rattle.state.proofs.Stops.{tells, a_target, Told, told, told_value}

module _ (e : Env) (s : State) where
  abbrev c : Config
  c = e.config

  abbrev v : View
  v = view_of e s

  abbrev i : Instruction
  i = parts_at e s

  abbrev r : Row
  r = row_at i.row

  module _ (t : Told e s) where
    inside : {A : Type 0} → T (is r.value target) ⊎ T (is r.value bank_address) → c.imsize ≤ i.value → A
    inside p h = let x : ⊥ = omega (arith, a_target c r.value i.value p (told_value e s t), h) in absurd x

    by_kind : (k : Kind) → Holds (tells k r) → c.imsize ≤ (plan_of v i k).core.pc → Elsewhere k ⊎ ((plan_of v i k).core.pc ≡ s.core.pc + 1)
    unfolding tells pick compare_plan compute_plan multiply_plan load_index_plan advanced index_store_plan index_load_plan move_plan load_constant_plan load_register_plan load_direct_plan store_register_plan store_direct_plan port_read_plan port_write_plan port_modify_plan jump_plan branch_plan jump_register_plan branch_register_plan call_plan call_register_plan ret_plan ret_constant_plan enter_bank_plan leave_bank_plan enter_special_plan leave_special_plan plan_of
    by_kind unsupported p h = inr refl
    by_kind (compute o x) p h = inr refl
    by_kind (compare o x) p h = inr refl
    by_kind (multiply x) p h = inr refl
    by_kind (bytewise o) p h = inr refl
    by_kind load_index p h = inr refl
    by_kind index_store p h = inr refl
    by_kind index_load p h = inr refl
    by_kind move p h = inr refl
    by_kind (load_constant f) p h = inr refl
    by_kind load_register p h = inr refl
    by_kind load_direct p h = inr refl
    by_kind store_register p h = inr refl
    by_kind store_direct p h = inr refl
    by_kind port_read p h = inr refl
    by_kind port_modify p h = inr refl
    by_kind (port_write x) p h = inr refl
    by_kind jump p h = inside (inl p) h
    by_kind (branch b) p h =
        either (λ m. c.imsize ≤ m.pc → Elsewhere (branch b) ⊎ (m.pc ≡ s.core.pc + 1)) (condition_met b s.core.n s.core.z) (at (M v i) i.value)
        (M v i)
        (λ _ g. inside (inl p) g)
        (λ _ g. inr refl)
        h
    by_kind jump_register p h = inl jumping
    by_kind (branch_register b) p h = inl branching
    by_kind call p h = inside (inl p) h
    by_kind call_register p h = inl calling
    by_kind ret p h = inl returning
    by_kind ret_constant p h = inl loading
    by_kind enter_bank p h = inside (inr p.0) h
    by_kind leave_bank p h = inl leaving
    by_kind enter_special p h = inr refl
    by_kind leave_special p h = inr refl

-- and so does the step, which is carried out where its number is 0

advance_leaves : (e : Env) (s : State) → (advance_of e s).number ≡ 0 → e.config.imsize ≤ (advance_of e s).state.core.pc →
    Elsewhere (kind_at e s) ⊎ ((advance_of e s).state.core.pc ≡ s.core.pc + 1)
unfolding advance_of applied plan_at
advance_leaves e s =
    either (λ (o : Outcome). o.number ≡ 0 → e.config.imsize ≤ o.state.core.pc → Elsewhere (kind_at e s) ⊎ (o.state.core.pc ≡ s.core.pc + 1))
    (eqb (number e s) 0) _ (refused (number e s) s)
    (λ u z h. let t = told e s (eqb→eq (number e s) 0 u) in by_kind e s t (kind_at e s) t.parts h)
    (λ f z h. absurd (f (eq→eqb (number e s) 0 z)))

pub leaves_image : LeavesImage
unfolding step_of
leaves_image e s =
    let n = first_failing (guards e s) in
    either (λ (o : Outcome). o.number ≡ 0 → e.config.imsize ≤ o.state.core.pc → Elsewhere (kind_at e s) ⊎ (o.state.core.pc ≡ s.core.pc + 1))
    (eqb n 0) (advance_of e s) (refused n s)
    (λ u z h. advance_leaves e s z h)
    (λ f z h. absurd (f (eq→eqb n 0 z)))
