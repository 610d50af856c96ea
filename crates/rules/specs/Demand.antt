-- Demand 3, whole: one claim about every list of calls.
use Rattle.std.specs.Prelude.{ℕ, ◌<◌, ◌≤◌, ◌≡◌, List, length}
use Rattle.laws.specs.Test.{Below}
use Rattle.laws.specs.First.{Every}
use Rattle.words.specs.declared.Config.{Config}
use Rattle.state.specs.State.{State, env, state, top, reset_machine}
use Rattle.state.specs.Calls.{Call, run, Done}
use Rattle.rules.specs.Check.{check_of, passed}
use Rattle.rules.specs.Calls.{trace}

-- what a call may answer: it passes, or stops "by a data address taken from a register (13), a missing reading (14) or a full log (15); a run may
-- also be refused by 16"; and by 27: "Demand 3's possible stops gain this one" (document 02, K4)
pub data May : Call → ℕ → Type 0 where
  passes : {c : Call} → May c 0
  no_data : {c : Call} → May c 13
  no_input : {c : Call} → May c 14
  no_room : {c : Call} → May c 15
  not_loaded : {c : Call} → May c 27
  too_long : {b : ℕ} → 1000000 < b → May (run b) 16

-- a call and what it came to: its answer is allowed, and the return stack never holds more than l addresses, "not even within a run"
pub record Fine (l : ℕ) (d : Call × Done) : Type 0 where
  pub answer : May d.0 d.1.number
  pub stack : Every (λ (s : State). s.core.depth ≤ l) d.1.through

-- a machine at reset with these memories and this log
abbrev pub at_reset : List ℕ → List ℕ → List ℕ → List ℕ → State
at_reset registers memory addresses values = state reset_machine.core reset_machine.stack registers memory addresses values

-- P of the inputs and the state of every "machine at reset", "Whatever the readings at the port", with "memories of the right length whose cells fit the
-- word width, and two log lists of equal length"
abbrev pub FromReset : Config → (List ℕ → State → Type 0) → Type 0
FromReset c P =
    (inputs registers memory addresses values : List ℕ) →
    length registers ≡ c.rmsize →
    Below (top c) registers →
    length memory ≡ c.dmsize →
    Below (top c) memory →
    length addresses ≡ length values →
    P inputs (at_reset registers memory addresses values)

-- every call of every list of calls is fine
abbrev pub Safe : Config → List ℕ → ℕ → Type 0
Safe c image l = FromReset c (λ inputs s. (calls : List Call) → Every (Fine l) (trace (env c image inputs) calls s))

abbrev pub Demand3 : Type 0
Demand3 = (c : Config) (image certificate : List ℕ) (l : ℕ) → check_of c image certificate ≡ passed l → Safe c image l
