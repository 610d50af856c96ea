-- What the code hands from step to step beside the memories, read as state's outcomes.
use Rattle.std.specs.Prelude.{ℕ, List, Result, Ok, Err}
use Rattle.state.specs.declared.Core.{Core}
use Rattle.state.specs.declared.Machine.{Machine}
use Rattle.state.specs.State.{State, state}
use Rattle.state.specs.Step.{Outcome, refused}
use Rattle.state.specs.Run.{Run}
use Rattle.machine.specs.declared.Turns.{Turns}
use Rattle.machine.specs.declared.Stepped.{Stepped}
use Rattle.machine.specs.declared.Ran.{Ran}
use Rattle.machine.specs.declared.Stop.{Stop}
use Rattle.machine.specs.Numbers.{stop_number, number_of}

abbrev pub machine_state : Machine → List ℕ → List ℕ → List ℕ → List ℕ → State
machine_state m registers memory addresses values = state m.core m.stack registers memory addresses values

-- a step's answer and the buffers it left; a machine m that is refused stays as it was
abbrev pub stepped : Machine → Result (Stepped Machine) Stop → List ℕ → List ℕ → List ℕ → List ℕ → Outcome
stepped m (Ok r) registers memory addresses values =
    record { number = 0; cycles = r.cycles; state = machine_state r.after registers memory addresses values }
stepped m (Err x) registers memory addresses values = refused (stop_number x) (machine_state m registers memory addresses values)

abbrev pub stepped_core : Core → Result (Stepped Core) Stop → List ℕ → List ℕ → List ℕ → List ℕ → List ℕ → Outcome
stepped_core m (Ok r) stack registers memory addresses values =
    record { number = 0; cycles = r.cycles; state = state r.after stack registers memory addresses values }
stepped_core m (Err x) stack registers memory addresses values = refused (stop_number x) (state m stack registers memory addresses values)

-- how a run ended: what it answers and the state it left
pub record End : Type 0 where
  pub number : ℕ
  pub steps : ℕ
  pub cycles : ℕ
  pub last : State

abbrev pub end_of : Run → End
end_of r = record { number = r.number; steps = r.steps; cycles = r.cycles; last = r.last }

abbrev pub turns_end : Turns → List ℕ → List ℕ → List ℕ → List ℕ → List ℕ → End
turns_end t stack registers memory addresses values =
    record {
      number = t.stop;
      steps = t.steps;
      cycles = t.cycles;
      last = state t.core stack registers memory addresses values;
    }

abbrev pub ran_end : Ran Machine → List ℕ → List ℕ → List ℕ → List ℕ → End
ran_end r registers memory addresses values =
    record {
      number = number_of r.stop;
      steps = r.steps;
      cycles = r.cycles;
      last = machine_state r.after registers memory addresses values;
    }

abbrev pub ran_core : Ran Core → List ℕ → List ℕ → List ℕ → List ℕ → List ℕ → End
ran_core r stack registers memory addresses values =
    record {
      number = number_of r.stop;
      steps = r.steps;
      cycles = r.cycles;
      last = state r.after stack registers memory addresses values;
    }
