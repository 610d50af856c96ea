-- One step: its number, and, where that is 0, its next state and its cycles.
use Rattle.std.specs.Prelude.{ℕ, ◌+◌, ◌&&◌, ◌||◌, not, List, Option, Some, None, eqb, set}
use Rattle.laws.specs.Choice.{pick}
use Rattle.laws.specs.First.{first_failing}
use Rattle.words.specs.declared.Config.{Config}
use Rattle.words.specs.declared.Facts.{Facts}
use Rattle.arith.specs.Width.{one}
use Rattle.state.specs.declared.Write.{Write}
use Rattle.state.specs.declared.Change.{Change}
use Rattle.state.specs.State.{Env, State, state}
use Rattle.state.specs.Ranges.{guards}
use Rattle.state.specs.Operands.{view_of}
use Rattle.state.specs.Plans.{plan_of}
use Rattle.state.specs.Stops.{parts_at, kind_at, facts_at, stops}

-- the number that stops a step of a state that 1, 2 and 3 let pass; 0 for none
unfoldable pub number : Env → State → ℕ
number e s = first_failing (stops e s)

unfoldable pub put_of : Option Write → List ℕ → List ℕ
put_of None xs = xs
put_of (Some w) xs = set xs w.at w.value

-- a change carried out: the one place where memories change
unfoldable pub applied : Change → State → State
applied x s =
    state x.core (put_of x.stack s.stack) (put_of x.reg s.registers) (put_of x.dm s.memory)
    (put_of x.logat s.addresses)
    (put_of x.logval s.values)

-- what the instruction at PC changes
unfoldable pub plan_at : Env → State → Change
plan_at e s = plan_of (view_of e s) (parts_at e s) (kind_at e s)

-- "Cycles: 2; 3 for a port read or IORMW; 3 for a data memory read (MOVX from it included) with DM_PIPE not 0."
unfoldable pub cycles_of : Config → Facts → ℕ
cycles_of c f = 2 + one (f.input || f.load && not (eqb c.dmpipe 0))

-- What a step answers: number, cycles, and the state it leaves.
pub record Outcome : Type 0 where
  pub number : ℕ
  pub cycles : ℕ
  pub state : State

-- a refusal: "changes nothing", and answers zeros beside its number
abbrev pub refused : ℕ → State → Outcome
refused n s = record { number = n; cycles = 0; state = s }

-- the step from 4 on
unfoldable pub advance_of : Env → State → Outcome
advance_of e s =
    pick (eqb (number e s) 0)
    (record { number = 0; cycles = cycles_of e.config (facts_at e s); state = applied (plan_at e s) s })
    (refused (number e s) s)

-- the whole call: 1, 2, 3, then 4 to 15 and 27
unfoldable pub step_of : Env → State → Outcome
step_of e s =
    pick (eqb (first_failing (guards e s)) 0) (advance_of e s) (refused (first_failing (guards e s)) s)
