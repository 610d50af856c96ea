-- What the program prints of a run, and of a step (docs/commands.md, 'yam run' and 'yam trace').
use Rattle.std.specs.Prelude.{◌≡◌, ℕ, ◌+◌, ◌%◌, ◌^◌, List, ◌==◌, Result, Ok, Err}
use Rattle.laws.specs.Choice.{pick}
use Rattle.words.specs.declared.Config.{Config}
use Rattle.state.specs.declared.Machine.{Machine}
use Rattle.state.specs.State.{State, env}
use Rattle.state.specs.Step.{Outcome, step_of}
use Rattle.machine.specs.declared.Stop.{Stop}
use Rattle.machine.specs.Numbers.{stop_number}
use Rattle.machine.specs.Stepping.{End}
use Rattle.printing.specs.Numerals.{refusal_line}
use Rattle.printing.specs.Puts.{Puts}
use Rattle.report.specs.Report.{report_of}
use Rattle.report.specs.Trace.{trace_line}
use Rattle.yam_run.specs.declared.trace.Traced.{Traced}

-- "above 1,000,000 it is `refused 16`"; else the report
unfoldable pub end_text : Config → End → List ℕ
end_text c e =
    let s = e.last in
    pick (e.number == 16) (refusal_line e.number)
    (report_of c e.number e.steps e.cycles s.core s.stack s.registers s.addresses s.values)

-- the line of a step from one state to another; cycles are counted in 64 bits
abbrev pub line_of : Config → List ℕ → ℕ → ℕ → State → Outcome → List ℕ
line_of c image step cycles old o =
    let new = o.state in
    trace_line c image step ((cycles + o.cycles) % 2 ^ 64) old.core new.core new.stack old.registers new.registers old.memory new.memory
    new.addresses new.values

-- document 01's number of a traced step, 0 where it was carried out; its cycles, the machine after it, and the bytes of its line
abbrev pub number_of : Result Traced Stop → ℕ
number_of (Ok t) = 0
number_of (Err x) = stop_number x

abbrev pub cycles_of : Result Traced Stop → ℕ
cycles_of (Ok t) = t.cycles
cycles_of (Err x) = 0

-- a machine m that is stopped stays as it was
abbrev pub machine_of : Machine → Result Traced Stop → Machine
machine_of m (Ok t) = t.machine
machine_of m (Err x) = m

abbrev pub bytes_of : Result Traced Stop → ℕ
bytes_of (Ok t) = t.bytes
bytes_of (Err x) = 0

-- What a traced step promises: it is a step, in number, cycles and state; and where it was carried out, the page has its line.
pub record Traces (c : Config) (image inputs : List ℕ) (s : State) (step cycles : ℕ) (page : List ℕ) (r : Result Traced Stop) (after : State) (q : List ℕ) : Type 0 where
  pub answer : ◌≡◌ {A = Outcome} (record { number = number_of r; cycles = cycles_of r; state = after }) (step_of (env c image inputs) s)
  pub prints : number_of r ≡ 0 → Puts page 0 (line_of c image step cycles s (step_of (env c image inputs) s)) (bytes_of r) q
