-- A run: its steps one by one, to the budget or to the first that is stopped.
use Rattle.std.specs.Prelude.{ℕ, zero, suc, ◌+◌, List, [], ◌∷◌, eqb}
use Rattle.laws.specs.Choice.{pick}
use Rattle.laws.specs.First.{first_failing}
use Rattle.state.specs.State.{Env, State}
use Rattle.state.specs.Ranges.{run_guards}
use Rattle.state.specs.Step.{advance_of}

-- What a run answers: number, steps and cycles done, the state it leaves; and the states that its steps were taken from, which with the last are all
-- states on the way.
pub record Run : Type 0 where
  pub number : ℕ
  pub steps : ℕ
  pub cycles : ℕ
  pub last : State
  pub seen : List State

-- a run that ends at once
abbrev pub ended : ℕ → State → Run
ended n s = record { number = n; steps = 0; cycles = 0; last = s; seen = [] }

-- a step from s of c cycles, and then a run
abbrev pub after : State → ℕ → Run → Run
after s c r =
    record { number = r.number; steps = 1 + r.steps; cycles = c + r.cycles; last = r.last; seen = s ∷ r.seen }

-- a budget of steps, from a state that 1, 2 and 3 let pass
unfoldable pub run_of : ℕ → Env → State → Run
run_of zero e s = ended 0 s
run_of (suc k) e s =
    let o = advance_of e s in
    let r = after s o.cycles (run_of k e o.state) in
    pick (eqb o.number 0) r (ended o.number s)

-- the whole call: 1, 2, 3, 16, then the steps
unfoldable pub run_call : ℕ → Env → State → Run
run_call budget e s =
    let n = first_failing (run_guards budget e s) in
    let r = run_of budget e s in
    pick (eqb n 0) r (ended n s)
