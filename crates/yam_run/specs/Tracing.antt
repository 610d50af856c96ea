-- What a whole trace prints, and that traced steps one after another print it.
use Rattle.std.specs.Prelude.{◌≡◌, ℕ, zero, suc, ◌+◌, ◌%◌, ◌^◌, ◌<◌, ◌≤◌, List, [], ◌∷◌, ◌++◌, length, take, ◌==◌, Result}
use Rattle.laws.specs.Choice.{pick}
use Rattle.laws.specs.Test.{Holds}
use Rattle.words.specs.declared.Config.{Config}
use Rattle.state.specs.State.{State, env}
use Rattle.state.specs.Claims.{Valid}
use Rattle.state.specs.Ranges.{budget_fits}
use Rattle.state.specs.Run.{run_call}
use Rattle.state.specs.Step.{step_of}
use Rattle.machine.specs.declared.Stop.{Stop}
use Rattle.report.specs.Report.{report_of}
use Rattle.yam_run.specs.declared.trace.Traced.{Traced}
use Rattle.yam_run.specs.Running.{line_of, number_of, cycles_of, bytes_of, Traces}

-- the report of a state
abbrev pub report_in : Config → ℕ → ℕ → ℕ → State → List ℕ
report_in c number steps cycles s = report_of c number steps cycles s.core s.stack s.registers s.addresses s.values

-- "before the report prints a line for each step that was carried out": k steps at most, from state s on, after `done` steps with `cycles`
unfoldable pub trace_text : Config → List ℕ → List ℕ → ℕ → ℕ → ℕ → State → List ℕ
trace_text c image inputs zero done cycles s = report_in c 0 done cycles s
trace_text c image inputs (suc k) done cycles s =
    let o = step_of (env c image inputs) s in
    pick (o.number == 0)
    (line_of c image (suc done) cycles s o ++ trace_text c image inputs k (suc done) ((cycles + o.cycles) % 2 ^ 64) o.state)
    (report_in c o.number done cycles o.state)

-- a traced step: the page before it, its answer, and state and page after it
pub record Turn : Type 0 where
  pub page : List ℕ
  pub answer : Result Traced Stop
  pub after : State
  pub left : List ℕ

-- traced steps one after another, each from the state that the last one left, until the budget is spent or one is stopped; each line had room
abbrev pub Turns : Config → List ℕ → List ℕ → ℕ → ℕ → ℕ → State → List Turn → Type 0
Turns c image inputs zero done cycles s [] = Unit {0}
Turns c image inputs zero done cycles s (t ∷ ts) = ⊥
Turns c image inputs (suc k) done cycles s [] = ⊥
Turns c image inputs (suc k) done cycles s (t ∷ ts) =
    Traces c image inputs s (suc done) cycles t.page t.answer t.after t.left × (bytes_of t.answer ≤ length t.page) ×
    (number_of t.answer ≡ 0 → Turns c image inputs k (suc done) ((cycles + cycles_of t.answer) % 2 ^ 64) t.after ts)

-- what they print: the bytes that each left on its page, and the report of the state where they ended
unfoldable pub turns_text : Config → ℕ → ℕ → State → List Turn → List ℕ
turns_text c done cycles s [] = report_in c 0 done cycles s
turns_text c done cycles s (t ∷ ts) =
    pick (number_of t.answer == 0)
    (take (bytes_of t.answer) t.left ++ turns_text c (suc done) ((cycles + cycles_of t.answer) % 2 ^ 64) t.after ts)
    (report_in c (number_of t.answer) done cycles t.after)

abbrev pub TracesJoin : Type 0
TracesJoin =
    (c : Config) (image inputs : List ℕ) (k done cycles : ℕ) (s : State) (ts : List Turn) → Turns c image inputs k done cycles s ts →
    turns_text c done cycles s ts ≡ trace_text c image inputs k done cycles s

-- the lines of a trace without its report
unfoldable pub trace_lines : Config → List ℕ → List ℕ → ℕ → ℕ → ℕ → State → List ℕ
trace_lines c image inputs zero done cycles s = []
trace_lines c image inputs (suc k) done cycles s =
    let o = step_of (env c image inputs) s in
    pick (o.number == 0)
    (line_of c image (suc done) cycles s o ++ trace_lines c image inputs k (suc done) ((cycles + o.cycles) % 2 ^ 64) o.state)
    []

-- "Does what `run` does, step by step": the report of a trace is that of the run, from a state that 1, 2 and 3 let pass and with a budget that 16 does
abbrev pub TraceAsRun : Type 0
TraceAsRun =
    (c : Config) (image inputs : List ℕ) (k done cycles : ℕ) (s : State) → let e = env c image inputs in let r = run_call k e s in
    Valid e s → Holds (budget_fits k) → cycles < 2 ^ 64 →
    trace_text c image inputs k done cycles s ≡
    trace_lines c image inputs k done cycles s ++ report_in c r.number (done + r.steps) ((cycles + r.cycles) % 2 ^ 64) r.last
