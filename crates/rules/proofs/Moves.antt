-- Where control goes in a step: the kinds of instruction are split once, into the ways that the rules speak of.
-- Assumes nothing.
use Prim.Native.Nat.{ℕ, ◌+◌, ◌-◌, ◌<◌}
use mathlib.Core.Path.{◌≡◌, refl}
use mathlib.Core.Logic.{◌⊎◌, inl, inr}
use mathlib.Core.Bool.{Bool, true, false, not, ◌||◌}
use mathlib.Core.List.{List, [], ◌∷◌}
use native.Mathlib.Omega.{arith}
use lib.Dec.{T, not_T}
use lib.ListN.{get_or}
use Rattle.std.specs.Prelude.{Option}
use Rattle.laws.specs.Choice.{pick, either, decided_yes}
use Rattle.laws.specs.Test.{Test, yes?, if?, ◌and◌, ◌or◌, test, Holds, holds}
use Rattle.laws.specs.Table.{every, at_every}
use Rattle.words.specs.declared.Config.{Config}
use Rattle.words.specs.declared.Instruction.{Instruction}
use Rattle.words.specs.declared.Facts.{Facts}
use Rattle.words.specs.Parts.{Option-discrete, never, needs, available}
use Rattle.words.specs.Kinds.{Mark, marks_of}
use Rattle.words.specs.Kinds.{Kind, unsupported, compute, compare, multiply, bytewise, load_index, index_store, index_load, move, load_constant, load_register, load_direct, store_register, store_direct, port_read, port_modify, port_write, jump, branch, jump_register, branch_register, call, call_register, ret, ret_constant, enter_bank, leave_bank, enter_special, leave_special}
use Rattle.words.specs.Rows.{Row, rows, row_count, row_at}
use Rattle.words.specs.Facts.{facts_for, facts_of}
use Rattle.state.specs.declared.Core.{Core}
use Rattle.state.specs.declared.Write.{Write}
use Rattle.state.specs.declared.Change.{Change}
use Rattle.state.specs.Cores.{at, off, write, moved}
use Rattle.state.specs.Operands.{View, condition_met}
use Rattle.state.specs.Plans.{advanced, M, compare_plan, compute_plan, multiply_plan, load_index_plan, index_store_plan, index_load_plan, move_plan, load_constant_plan, load_register_plan, load_direct_plan, store_register_plan, store_direct_plan, port_read_plan, port_write_plan, port_modify_plan, jump_plan, branch_plan, call_plan, ret_plan, ret_constant_plan, enter_special_plan, leave_special_plan, plan_of}
use Rattle.rules.specs.Successors.{successor, successors}
use Rattle.rules.specs.Rules.{mode_after}
use Rattle.rules.proofs.Successors.{◌∈◌, first, second}

-- From core m and stack, by an instruction of facts f and target t: the PC, the depth, what is
-- written to the stack, the mode and the posted mark. Only a word that goes on to the next address
-- posts. Calls and returns are none of what special-register mode allows.
pub data Moves (f : Facts) (t : ℕ) (m : Core) (stack : List ℕ) : ℕ → ℕ → Option Write → ℕ → ℕ → Type 0 where
  to_successor : {a posted : ℕ} →
      successor a false ∈ successors f m.pc t →
      (posted ≡ 1 → T f.output × (a ≡ m.pc + 1)) →
      Moves f t m stack a m.depth off (mode_after f m.mode) posted
  to_call : successor t true ∈ successors f m.pc t →
      successor (m.pc + 1) false ∈ successors f m.pc t →
      mode_after f 0 ≡ 0 →
      T (not (f.leaves || f.reveals)) →
      Moves f t m stack t (m.depth + 1) (write m.depth (m.pc + 1)) (mode_after f m.mode) 0
  to_saved : T f.returns →
      T (not (f.leaves || f.reveals)) →
      Moves f t m stack (get_or stack (m.depth - 1) 0) (m.depth - 1) (write (m.depth - 1) 0) m.mode 0
  to_barred : {pc depth : ℕ} {w : Option Write} {mode posted : ℕ} → T f.barred → Moves f t m stack pc depth w mode posted

abbrev pub MovesBy : Facts → ℕ → Core → List ℕ → Change → Type 0
MovesBy f t m stack x = Moves f t m stack x.core.pc x.core.depth x.stack x.core.mode x.core.posted

-- what the table of rows tells: a row that some configuration has is of a kind with a plan, what
-- changes the bank is barred, and what calls has a target or is barred

abbrev some_mark : List Mark → Bool
some_mark [] = false
some_mark (m ∷ ms) = true

abbrev tells : Row → Facts → Test
tells r f =
    (yes? (needs r.option never) or yes? (some_mark (marks_of r.kind))) and
    if? f.tobank (yes? f.barred) and
    if? f.frombank (yes? f.barred) and
    if? f.calls (if? (not f.barred) (yes? f.target))

all_tell : T (every row_count (λ n. test (tells (row_at n) (facts_of n))))
unfolding rows row_at facts_for marks_of
all_tell = tt

row_tells : (n : ℕ) → n < row_count → Holds (tells (row_at n) (facts_of n))
row_tells n h = holds (tells (row_at n) (facts_of n)) (at_every row_count (λ m. test (tells (row_at m) (facts_of m))) n all_tell h)

unmarked : (k : Kind) → T (some_mark (marks_of k)) → k ≡ unsupported → ⊥
unfolding marks_of
unmarked k t e = rw e at t

pub planned : (c : Config) (n : ℕ) → n < row_count → Holds (available c (row_at n).option) → (row_at n).kind ≡ unsupported → ⊥
unfolding available
planned c n h a = go (row_tells n h).0
  where
    go : T (needs (row_at n).option never) ⊎ T (some_mark (marks_of (row_at n).kind)) → (row_at n).kind ≡ unsupported → ⊥
    go (inl z) e = rw (decided_yes (Option-discrete (row_at n).option never) z) at a
    go (inr p) e = unmarked (row_at n).kind p e

pub bank_barred : (n : ℕ) → n < row_count → T (facts_of n).tobank → T (facts_of n).barred
bank_barred n h = (row_tells n h).1.0

pub back_barred : (n : ℕ) → n < row_count → T (facts_of n).frombank → T (facts_of n).barred
back_barred n h = (row_tells n h).1.1.0

pub callee : (n : ℕ) → n < row_count → (T (facts_of n).barred → ⊥) → T (facts_of n).calls → T (facts_of n).target
callee n h free t = (row_tells n h).1.1.1 t (not_T (facts_of n).barred free)

-- nothing is posted
pub silent : {A : Type 0} → ◌≡◌ {A = ℕ} 0 1 → A
silent z = let x : ⊥ = omega arith in absurd x

-- whatever the kind
pub plan_moves : (v : View) (i : Instruction) (k : Kind) → (k ≡ unsupported → ⊥) →
    MovesBy (facts_for k) i.value v.core v.stack (plan_of v i k)
unfolding pick successors facts_for marks_of plan_of compare_plan compute_plan multiply_plan load_index_plan advanced index_store_plan index_load_plan move_plan load_constant_plan load_register_plan load_direct_plan store_register_plan store_direct_plan port_read_plan port_write_plan port_modify_plan jump_plan branch_plan call_plan ret_plan ret_constant_plan enter_special_plan leave_special_plan
plan_moves v i unsupported h = absurd (h refl)
plan_moves v i (compute o x) h = to_successor first silent
plan_moves v i (compare o x) h = to_successor first silent
plan_moves v i (multiply x) h = to_successor first silent
plan_moves v i (bytewise o) h = to_successor first silent
plan_moves v i load_index h = to_successor first silent
plan_moves v i index_store h = to_successor first silent
plan_moves v i index_load h = to_successor first silent
plan_moves v i move h = to_successor first silent
plan_moves v i (load_constant g) h = to_successor first silent
plan_moves v i load_register h = to_successor first silent
plan_moves v i load_direct h = to_successor first silent
plan_moves v i store_register h = to_successor first silent
plan_moves v i store_direct h = to_successor first silent
plan_moves v i port_read h = to_successor first silent
plan_moves v i port_modify h = to_successor first (λ z. (tt, refl))
plan_moves v i (port_write x) h = to_successor first (λ z. (tt, refl))
plan_moves v i jump h = to_successor first silent
plan_moves v i (branch b) h =
    either (λ m. MovesBy (facts_for (branch b)) i.value v.core v.stack (moved m)) (condition_met b v.core.n v.core.z)
    (at (M v i) i.value)
    (M v i)
    (λ t. to_successor second silent)
    (λ t. to_successor first silent)
plan_moves v i jump_register h = to_barred tt
plan_moves v i (branch_register b) h = to_barred tt
plan_moves v i call h = to_call second first refl tt
plan_moves v i call_register h = to_barred tt
plan_moves v i ret h = to_saved tt tt
plan_moves v i ret_constant h = to_saved tt tt
plan_moves v i enter_bank h = to_barred tt
plan_moves v i leave_bank h = to_barred tt
plan_moves v i enter_special h = to_successor first silent
plan_moves v i leave_special h = to_successor first silent
