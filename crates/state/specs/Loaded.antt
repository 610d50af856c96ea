-- What is proved of the mark that an LDYX has run since reset: document 02, K4. What each kind of instruction leaves it is said beside the plans and apart
-- from them, so that a plan that changes it is refused.
use Rattle.std.specs.Prelude.{ℕ, ◌<◌, ◌≡◌, List, [], ◌∷◌}
use Rattle.laws.specs.Test.{Holds}
use Rattle.laws.specs.First.{Obeyed}
use Rattle.words.specs.Rows.{row_at}
use Rattle.words.specs.Words.{refusals567}
use Rattle.words.specs.Kinds.{Kind, unsupported, compute, compare, multiply, bytewise, load_index, index_store, index_load, move, load_constant, load_register, load_direct, store_register, store_direct, port_read, port_modify, port_write, jump, branch, jump_register, branch_register, call, call_register, ret, ret_constant, enter_bank, leave_bank, enter_special, leave_special}
use Rattle.state.specs.State.{Env, State, reset_machine}
use Rattle.state.specs.Stops.{stop8, parts_at, kind_at, facts_at}
use Rattle.state.specs.Step.{step_of}
use Rattle.state.specs.Run.{run_call}
use Rattle.state.specs.Claims.{Valid}

-- the mark after an instruction of each kind: an LDYX sets it
unfoldable pub loaded_after : Kind → ℕ → ℕ
loaded_after unsupported mark = mark
loaded_after (compute o x) mark = mark
loaded_after (compare o x) mark = mark
loaded_after (multiply x) mark = mark
loaded_after (bytewise o) mark = mark
loaded_after load_index mark = 1
loaded_after index_store mark = mark
loaded_after index_load mark = mark
loaded_after move mark = mark
loaded_after (load_constant f) mark = mark
loaded_after load_register mark = mark
loaded_after load_direct mark = mark
loaded_after store_register mark = mark
loaded_after store_direct mark = mark
loaded_after port_read mark = mark
loaded_after port_modify mark = mark
loaded_after (port_write x) mark = mark
loaded_after jump mark = mark
loaded_after (branch c) mark = mark
loaded_after jump_register mark = mark
loaded_after (branch_register c) mark = mark
loaded_after call mark = mark
loaded_after call_register mark = mark
loaded_after ret mark = mark
loaded_after ret_constant mark = mark
loaded_after enter_bank mark = mark
loaded_after leave_bank mark = mark
loaded_after enter_special mark = mark
loaded_after leave_special mark = mark

-- and after the steps from these states
abbrev pub loaded_along : Env → List State → ℕ → ℕ
loaded_along e [] mark = mark
loaded_along e (s ∷ ss) mark = loaded_along e ss (loaded_after (kind_at e s) mark)

-- MOVX, both ways
pub data Movx : Kind → Type 0 where
  to_memory : Movx index_store
  from_memory : Movx index_load

-- 1 to 8 let the step pass
pub record Reached (e : Env) (s : State) : Type 0 where
  pub valid : Valid e s
  pub pc : s.core.pc < e.config.imsize
  pub reads : Obeyed (refusals567 e.config (row_at (parts_at e s).row) (parts_at e s))
  pub mode : Holds (stop8 s.core.mode (parts_at e s).source (facts_at e s))

-- "The machine now remembers if an LDYX has run since reset; MOVX before that is a stop": the mark is 0 at reset, a step that is carried out and a run leave
-- it as their instructions do; a MOVX that 1 to 8 let pass is stopped by 27 where the mark is 0, and nothing else is
pub record Remembers : Type 0 where
  pub reset : reset_machine.core.loaded ≡ 0
  pub step : (e : Env) (s : State) → (step_of e s).number ≡ 0 → (step_of e s).state.core.loaded ≡ loaded_after (kind_at e s) s.core.loaded
  pub run : (budget : ℕ) (e : Env) (s : State) →
      (run_call budget e s).last.core.loaded ≡ loaded_along e (run_call budget e s).seen s.core.loaded
  pub stops : (e : Env) (s : State) → Reached e s → Movx (kind_at e s) → s.core.loaded ≡ 0 → (step_of e s).number ≡ 27
  pub only : (e : Env) (s : State) → (step_of e s).number ≡ 27 → Movx (kind_at e s) × (s.core.loaded ≡ 0)
