-- What is proved of the flat records and of lists of calls: a C caller hands on what a call left, and the next call reads what the last one wrote.
use Rattle.std.specs.Prelude.{ℕ, ◌<◌, ◌≤◌, ◌≡◌, List, [], ◌∷◌, length}
use Rattle.laws.specs.First.{Every}
use Rattle.words.specs.declared.Config.{Config}
use Rattle.words.specs.declared.Instruction.{Instruction}
use Rattle.state.specs.State.{Env, State, env}
use Rattle.state.specs.Step.{step_of}
use Rattle.state.specs.Run as Run
use Rattle.state.specs.Calls.{Call, step, run}
use Rattle.state.specs.Claims.{Valid}
use Rattle.machine.specs.Stepping.{machine_state}
use Rattle.rules.specs.Demand.{May, FromReset}
use Rattle.yam_c.specs.Flat.{cell, config_of, config_words, instruction_of, instruction_words, core_in, machine_of, machine_words}
use Rattle.yam_c.specs.Calls.{Moved, reset_call, step_call, run_call, check_call}

-- Flat records read back as themselves: a configuration, an instruction, and a machine in its ranges

abbrev pub ConfigBack : Type 0
ConfigBack = (c : Config) → config_of (config_words c) ≡ c

abbrev pub InstructionBack : Type 0
InstructionBack = (i : Instruction) → instruction_of (instruction_words i) ≡ i

abbrev pub MachineBack : Type 0
MachineBack =
    (e : Env) (s : State) →
    Valid e s →
    length s.stack ≡ 63 →
    machine_of (machine_words s.core s.stack) ≡ record { core = s.core; stack = s.stack }

-- the lists that a caller holds from call to call, and the state that stands in them
pub record Held : Type 0 where
  pub machine : List ℕ
  pub registers : List ℕ
  pub memory : List ℕ
  pub addresses : List ℕ
  pub values : List ℕ

abbrev pub state_in : Held → State
state_in h = machine_state (machine_of h.machine) h.registers h.memory h.addresses h.values

abbrev pub left_by : Moved → Held
left_by x =
    record {
      machine = x.machine;
      registers = x.registers;
      memory = x.memory;
      addresses = x.addresses;
      values = x.values;
    }

-- yam_step or yam_run on the lists that are held
abbrev pub call_with : List ℕ → List ℕ → List ℕ → Held → Call → List ℕ → Moved
call_with config image inputs h step answers =
    step_call config image inputs h.machine h.registers h.memory h.addresses h.values answers
call_with config image inputs h (run budget) answers =
    run_call config image inputs h.machine h.registers h.memory h.addresses h.values budget answers

-- the next call reads the state that the step or the run left, refused or not
abbrev pub StepHandsOn : Type 0
StepHandsOn =
    (config image inputs : List ℕ) (h : Held) (answers : List ℕ) →
    state_in (left_by (call_with config image inputs h step answers)) ≡ (step_of (env (config_of config) image inputs) (state_in h)).state

abbrev pub RunHandsOn : Type 0
RunHandsOn =
    (config image inputs : List ℕ) (h : Held) (budget : ℕ) (answers : List ℕ) →
    state_in (left_by (call_with config image inputs h (run budget) answers)) ≡
    (Run.run_call budget (env (config_of config) image inputs) (state_in h)).last

-- Demand 3 of this interface's calls

-- calls, each with its list of answers, one after the other: what each answers and leaves
unfoldable pub answered : List ℕ → List ℕ → List ℕ → List (Call × List ℕ) → Held → List (Call × Moved)
answered config image inputs [] h = []
answered config image inputs (c ∷ cs) h =
    let x = call_with config image inputs h c.0 c.1 in (c.0, x) ∷ answered config image inputs cs (left_by x)

-- the number is allowed, and the depth in the machine's words is at most l
pub record Allowed (l : ℕ) (d : Call × Moved) : Type 0 where
  pub number : May d.0 d.1.number
  pub stack : (core_in d.1.machine).depth ≤ l

-- the lists at reset: what yam_reset leaves of any list of a hundred words, beside memories and a log
abbrev pub held_at_reset : List ℕ → State → Held
held_at_reset f s =
    record {
      machine = (reset_call f).list;
      registers = s.registers;
      memory = s.memory;
      addresses = s.addresses;
      values = s.values;
    }

-- where yam_check answers 0, and the level as its first answer
abbrev pub Demand3Lists : Type 0
Demand3Lists =
    (config image certificate answers f : List ℕ) →
    (check_call config image certificate answers).number ≡ 0 →
    0 < length answers →
    length f ≡ 100 →
    FromReset (config_of config)
    (λ inputs s.
    (calls : List (Call × List ℕ)) →
    Every (Allowed (cell (check_call config image certificate answers).list 0)) (answered config image inputs calls (held_at_reset f s)))
