-- Demand 3 of the answers of the public calls: what machine promises of `step` and `run`, over every list of them.
use Rattle.std.specs.Prelude.{ℕ, ◌≤◌, ◌≡◌, List, [], ◌∷◌}
use Rattle.laws.specs.First.{Every}
use Rattle.words.specs.declared.Config.{Config}
use Rattle.state.specs.State.{Env, State, env}
use Rattle.state.specs.Step.{Outcome}
use Rattle.state.specs.Calls.{Call, step, run, call_of}
use Rattle.machine.specs.Stepping.{End}
use Rattle.machine.specs.Claims.{Steps, Runs}
use Rattle.rules.specs.Check.{check_of, passed}
use Rattle.rules.specs.Demand.{May, FromReset}

-- a public call that was made, with what it answered and left
pub data Made : Type 0 where
  stepped : Outcome → Made  -- `step`
  ran : ℕ → End → Made  -- `run` with this budget

abbrev pub call_in : Made → Call
call_in (stepped o) = step
call_in (ran budget x) = run budget

abbrev pub number_of : Made → ℕ
number_of (stepped o) = o.number
number_of (ran budget x) = x.number

abbrev pub left_by : Made → State
left_by (stepped o) = o.state
left_by (ran budget x) = x.last

-- what the contract of the call promises of it, from state s
abbrev pub Promised : Env → State → Made → Type 0
Promised e s (stepped o) = Steps e s o
Promised e s (ran budget x) = Runs budget e s x

-- calls one after the other, each answered as promised: "Each call gets the machine, memories and log that the last one returned or left"
abbrev pub Answered : Env → State → List Made → Type 0
Answered e s [] = Unit {0}
Answered e s (m ∷ ms) = Promised e s m × Answered e (left_by m) ms

-- the call's number is allowed, and the return stack holds at most l addresses in the state that it leaves and in every state on the way
pub record Allowed (l : ℕ) (e : Env) (s : State) (m : Made) : Type 0 where
  pub number : May (call_in m) (number_of m)
  pub left : (left_by m).core.depth ≤ l
  pub stack : Every (λ (t : State). t.core.depth ≤ l) (call_of e (call_in m) s).through

abbrev pub AllAllowed : ℕ → Env → State → List Made → Type 0
AllAllowed l e s [] = Unit {0}
AllAllowed l e s (m ∷ ms) = Allowed l e s m × AllAllowed l e (left_by m) ms

-- "no step or run call in the list is refused or stopped by 1 to 12", "the return stack never holds more"
abbrev pub Demand3Calls : Type 0
Demand3Calls =
    (c : Config) (image certificate : List ℕ) (l : ℕ) →
    check_of c image certificate ≡ passed l →
    FromReset c (λ inputs s. (calls : List Made) → Answered (env c image inputs) s calls → AllAllowed l (env c image inputs) s calls)
