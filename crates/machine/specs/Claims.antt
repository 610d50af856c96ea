-- What the public calls promise: one equation each, and what is proved of the definitions beside it.
use Rattle.std.specs.Prelude.{ℕ, ◌≡◌, length}
use Rattle.state.specs.State.{Env, State}
use Rattle.state.specs.Step.{Outcome, refused, step_of}
use Rattle.state.specs.Run.{ended, run_call}
use Rattle.state.specs.Claims.{RefusedStays, CellsStay, StepValid, LeavesImage, RunBySteps, RunSplits, RunCycles}
use Rattle.state.specs.ComesBack.{ComesBack, GoesByZero, GoesAlong}
use Rattle.state.specs.Loaded.{Remembers}
use Rattle.machine.specs.Stepping.{End, end_of}

-- `step` from s leaves and answers o
pub record Steps (e : Env) (s : State) (o : Outcome) : Type 0 where
  pub answer : o ≡ step_of e s
  pub refused_stays : RefusedStays
  pub cells_stay : CellsStay
  pub stays_valid : StepValid
  pub leaves_image : LeavesImage
  pub comes_back : ComesBack
  pub goes_by_zero : GoesByZero
  pub goes_along : GoesAlong
  pub remembers : Remembers

-- `step_lent` does the same where the lent return stack is 63 cells long; else it answers 2 and leaves all as it was
pub record StepsLent (e : Env) (s : State) (o : Outcome) : Type 0 where
  pub fits : length s.stack ≡ 63 → Steps e s o
  pub misfit : (length s.stack ≡ 63 → ⊥) → o ≡ refused 2 s

-- `run` from s with this budget leaves and answers x
pub record Runs (budget : ℕ) (e : Env) (s : State) (x : End) : Type 0 where
  pub answer : x ≡ end_of (run_call budget e s)
  pub by_steps : RunBySteps
  pub splits : RunSplits
  pub cycles : RunCycles
  pub comes_back : ComesBack
  pub goes_by_zero : GoesByZero
  pub goes_along : GoesAlong
  pub remembers : Remembers

-- and so does `run_lent`
pub record RunsLent (budget : ℕ) (e : Env) (s : State) (x : End) : Type 0 where
  pub fits : length s.stack ≡ 63 → Runs budget e s x
  pub misfit : (length s.stack ≡ 63 → ⊥) → x ≡ end_of (ended 2 s)
