-- What is proved of a step and a run, each said once: contracts cite these.
use Rattle.std.specs.Prelude.{ℕ, suc, ◌+◌, ◌*◌, ◌≤◌, ◌≡◌, ◌⊎◌, [], ◌∷◌, ◌++◌, get_or}
use Rattle.laws.specs.Test.{Holds}
use Rattle.laws.specs.First.{first_failing, Obeyed}
use Rattle.words.specs.Kinds.{Condition}
use Rattle.words.specs.Kinds.{Kind, jump_register, branch_register, call_register, ret, ret_constant, leave_bank}
use Rattle.state.specs.State.{Env, State}
use Rattle.state.specs.Ranges.{guards, budget_fits}
use Rattle.state.specs.Operands.{view_of}
use Rattle.state.specs.Destinations.{Destination, register_cell, data-cell, destination_of}
use Rattle.state.specs.Stops.{parts_at, kind_at}
use Rattle.state.specs.Step.{Outcome, step_of}
use Rattle.state.specs.Run.{Run, run_call}

-- a state that 1, 2 and 3 let pass
abbrev pub Valid : Env → State → Type 0
Valid e s = Obeyed (guards e s)

-- what a step hands back, 1, 2 and 3 let pass again
abbrev pub StepValid : Type 0
StepValid = (e : Env) (s : State) → (step_of e s).number ≡ 0 → Valid e (step_of e s).state

-- "A refused step leaves the machine, its registers, its data memory and its output log unchanged."
abbrev pub RefusedStays : Type 0
RefusedStays = (e : Env) (s : State) → ((step_of e s).number ≡ 0 → ⊥) → (step_of e s).state ≡ s

-- where the instruction at PC writes
abbrev pub destination_at : Env → State → Destination
destination_at e s = destination_of (view_of e s) (parts_at e s) (kind_at e s)

-- "Register cells but the destination, and data cells but the addressed one, stay."
pub record CellsStay : Type 0 where
  pub registers : (e : Env) (s : State) (j : ℕ) → (destination_at e s ≡ register_cell j → ⊥) → get_or (step_of e s).state.registers j 0 ≡ get_or s.registers j 0
  pub memory : (e : Env) (s : State) (j : ℕ) → (destination_at e s ≡ data-cell j → ⊥) → get_or (step_of e s).state.memory j 0 ≡ get_or s.memory j 0

-- the kinds that go on elsewhere than at the next word or at an address in the word: JMP @, JSR @, RET, RLD, RETWP
pub data Elsewhere : Kind → Type 0 where
  jumping : Elsewhere jump_register
  branching : {k : Condition} → Elsewhere (branch_register k)
  calling : Elsewhere call_register
  returning : Elsewhere ret
  loading : Elsewhere ret_constant
  leaving : Elsewhere leave_bank

-- K2, "Stop 4 remains": where a step leaves PC outside the image, so that the next is stopped by 4, it was one of those, or went on from the last word. A
-- direct target or JSRWP address outside is refused where it stands.
abbrev pub LeavesImage : Type 0
LeavesImage = (e : Env) (s : State) → (step_of e s).number ≡ 0 → e.config.imsize ≤ (step_of e s).state.core.pc →
    Elsewhere (kind_at e s) ⊎ ((step_of e s).state.core.pc ≡ s.core.pc + 1)

-- r is the step o from s and then the run q
pub record Follows (s : State) (o : Outcome) (q r : Run) : Type 0 where
  pub number : r.number ≡ q.number
  pub steps : r.steps ≡ 1 + q.steps
  pub cycles : r.cycles ≡ o.cycles + q.cycles
  pub last : r.last ≡ q.last
  pub seen : r.seen ≡ s ∷ q.seen

-- r took no step, answers n and leaves s
pub record Halts (s : State) (n : ℕ) (r : Run) : Type 0 where
  pub number : r.number ≡ n
  pub steps : r.steps ≡ 0
  pub cycles : r.cycles ≡ 0
  pub last : r.last ≡ s
  pub seen : r.seen ≡ []

-- "A run of several steps is those steps one by one": a run of 1 + k steps, as many as 16 allows, is a step and, where that is not stopped, the run of k
-- from the state that it left. A run of none does nothing to a state that 1, 2 and 3 let pass; what they refuse, a run of any budget answers, before 16.
pub record RunBySteps : Type 0 where
  pub none : (e : Env) (s : State) → Valid e s → Halts s 0 (run_call 0 e s)
  pub goes_on : (k : ℕ) (e : Env) (s : State) → Holds (budget_fits (suc k)) → (step_of e s).number ≡ 0 →
      Follows s (step_of e s) (run_call k e (step_of e s).state) (run_call (suc k) e s)
  pub stops : (k : ℕ) (e : Env) (s : State) → Holds (budget_fits (suc k)) → ((step_of e s).number ≡ 0 → ⊥) →
      Halts s (step_of e s).number (run_call (suc k) e s)
  pub refused : (budget : ℕ) (e : Env) (s : State) → (first_failing (guards e s) ≡ 0 → ⊥) →
      Halts s (first_failing (guards e s)) (run_call budget e s)
  pub too_long : (budget : ℕ) (e : Env) (s : State) → Valid e s → (Holds (budget_fits budget) → ⊥) → Halts s 16 (run_call budget e s)

-- one run and then another
abbrev pub joined : Run → Run → Run
joined r q =
    record {
      number = q.number;
      steps = r.steps + q.steps;
      cycles = r.cycles + q.cycles;
      last = q.last;
      seen = r.seen ++ q.seen;
    }

-- a run of m + n steps, as many as 16 allows, is a run of m and then of n, where the first is not stopped
abbrev pub RunSplits : Type 0
RunSplits =
    (m n : ℕ) (e : Env) (s : State) →
    Holds (budget_fits (m + n)) →
    (run_call m e s).number ≡ 0 →
    run_call (m + n) e s ≡ joined (run_call m e s) (run_call n e (run_call m e s).last)

-- "So a run's cycles lie between 2 and 3 times its steps."
pub record CyclesLie (r : Run) : Type 0 where
  pub least : 2 * r.steps ≤ r.cycles
  pub most : r.cycles ≤ 3 * r.steps

abbrev pub RunCycles : Type 0
RunCycles = (budget : ℕ) (e : Env) (s : State) → CyclesLie (run_call budget e s)
