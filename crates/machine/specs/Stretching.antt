-- How far steps came on the way of a run: what is left to do, after what is done, is the whole run.
use Rattle.std.specs.Prelude.{ℕ, ◌+◌, ◌*◌, ◌%◌, ◌≤◌, ◌<◌, true, ◌⊎◌, ◌≡◌, length}
use Rattle.state.specs.State.{Env, State}
use Rattle.state.specs.Step.{Outcome, advance_of, cycles_of}
use Rattle.state.specs.Stops.{facts_at}
use Rattle.state.specs.Cores.{stopped}
use Rattle.state.specs.Run.{run_of}
use Rattle.state.specs.Good.{Good}
use Rattle.cells.specs.Cell.{action_in, value_in}
use Rattle.machine.specs.declared.Decision.{Decision}
use Rattle.machine.specs.declared.Turn.{Turn}
use Rattle.machine.specs.declared.Turns.{Turns}
use Rattle.machine.specs.Exec.{change_at}
use Rattle.machine.specs.Stepping.{End, end_of}

-- d is what the word at PC does by its cell x: its change and its cycles; or it is made apart
pub record Decides (e : Env) (s : State) (x : ℕ) (d : Decision) : Type 0 where
  pub apart : action_in x ≡ 0 → d.change ≡ stopped s.core (256 + value_in x % 256)
  pub change : (action_in x ≡ 0 → ⊥) → d.change ≡ change_at e s
  pub cycles : (action_in x ≡ 0 → ⊥) → d.change.stop ≡ 0 → d.cycles ≡ cycles_of e.config (facts_at e s)
  pub no_switch : (action_in x ≡ 0 → ⊥) → ((facts_at e s).enters ≡ true → ⊥) × ((facts_at e s).leaves ≡ true → ⊥)

-- r is one step from s, which left t, by its cell x; or nothing, where it is made apart
pub record Steps-by (e : Env) (s t : State) (x : ℕ) (r : Turn) : Type 0 where
  pub step : r.stop < 256 → ◌≡◌ {A = Outcome} (record { number = r.stop; cycles = r.cycles; state = t }) (advance_of e s)
  pub apart : 256 ≤ r.stop → (t ≡ s) × (action_in x ≡ 0)
  pub mode : t.core.mode ≡ 0

-- n steps of c cycles in all, and then what is left
abbrev pub plus : ℕ → ℕ → End → End
plus n c x = record { number = x.number; steps = n + x.steps; cycles = c + x.cycles; last = x.last }

pub record SameLengths (s t : State) : Type 0 where
  pub stack : length t.stack ≡ length s.stack
  pub registers : length t.registers ≡ length s.registers
  pub memory : length t.memory ≡ length s.memory
  pub addresses : length t.addresses ≡ length s.addresses
  pub values : length t.values ≡ length s.values

-- `steps` steps of `cycles` cycles in all lead from s to t: whatever budget is left, the run from t is the rest of the run from s
pub record Reached (e : Env) (s t : State) (steps cycles : ℕ) : Type 0 where
  pub good : Good e t
  pub bound : cycles ≤ 3 * steps
  pub lengths : SameLengths s t
  pub whole : (n : ℕ) → plus steps cycles (end_of (run_of n e t)) ≡ end_of (run_of (steps + n) e s)

-- How far a run of `budget` from s came, where r is answered and t is the state that was left. `here` is the cell that is kept for an address: a stop from 256
-- on says that the next step is made apart; another is that of the next step; and where there is none, the budget is spent.
pub record Came (here : ℕ → ℕ) (budget : ℕ) (e : Env) (s t : State) (r : Turns) : Type 0 where
  pub few : r.steps ≤ budget
  pub reached : Reached e s t r.steps r.cycles
  pub mode : t.core.mode ≡ 0
  pub stopped : (r.stop ≡ 0 → ⊥) → r.stop < 256 → (r.steps < budget) × ((advance_of e t).number ≡ r.stop)
  pub finished : r.stop ≡ 0 → r.steps ≡ budget
  pub apart : 256 ≤ r.stop → (r.steps < budget) × (action_in (here t.core.pc) ≡ 0)

-- how far a step came that is made by hand, or a stretch over cells that have the first step's cell: `stop` as above, but none does not tell that the budget
-- is spent; some step is done where the next is not stopped
pub record Went (budget : ℕ) (e : Env) (s t : State) (r : Turns) : Type 0 where
  pub few : r.steps ≤ budget
  pub reached : Reached e s t r.steps r.cycles
  pub stopped : (r.stop ≡ 0 → ⊥) → r.stop < 256 → (r.steps < budget) × ((advance_of e t).number ≡ r.stop)
  pub apart : 256 ≤ r.stop → r.steps < budget
  pub some : (r.stop ≡ 0) ⊎ (256 ≤ r.stop) → 0 < r.steps
