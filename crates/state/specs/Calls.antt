-- The calls of step and run: what each answers, the state that it leaves, and every state that it passes through.
use Rattle.std.specs.Prelude.{ℕ, List, [], ◌∷◌, ◌++◌}
use Rattle.state.specs.State.{Env, State}
use Rattle.state.specs.Step.{step_of}
use Rattle.state.specs.Run.{run_call}

pub data Call : Type 0 where
  step : Call
  run : ℕ → Call  -- with this budget

-- the number that a call answers, the state that it leaves, and all states from the one that it was given to the one that it leaves
pub record Done : Type 0 where
  pub number : ℕ
  pub last : State
  pub through : List State

-- a run that takes no step, refused or not, leaves the state it was given
unfoldable pub call_of : Env → Call → State → Done
call_of e step s = let o = step_of e s in record { number = o.number; last = o.state; through = s ∷ o.state ∷ [] }
call_of e (run budget) s =
    let r = run_call budget e s in record { number = r.number; last = r.last; through = r.seen ++ (r.last ∷ []) }
