-- A run by its steps: it is put together from shorter runs, and its cycles lie between 2 and 3 times its steps.
-- Assumes nothing.
use Prim.Native.Nat.{ℕ, zero, suc, ◌+◌, ◌≤◌}
use mathlib.Core.Path.{◌≡◌}
use mathlib.Core.Bool.{Bool, true, false, not, ◌&&◌, ◌||◌}
use native.Mathlib.Nat.{add_assoc, zero-add, suc-add}
use native.Mathlib.Omega.{arith}
use lib.Dec.{T, eqb, eqb→eq}
use Rattle.laws.specs.Choice.{pick, either}
use Rattle.laws.specs.Test.{eq→eqb}
use Rattle.laws.specs.First.{first_failing}
use Rattle.words.specs.declared.Config.{Config}
use Rattle.words.specs.declared.Facts.{Facts}
use Rattle.arith.proofs.Fits.{one_le}
use Rattle.state.specs.State.{Env, State}
use Rattle.state.specs.Ranges.{run_guards}
use Rattle.state.specs.Stops.{facts_at}
use Rattle.state.specs.Step.{Outcome, refused, number, cycles_of, advance_of}
use Rattle.state.specs.Run.{Run, ended, after, run_of, run_call}
use Rattle.state.specs.Claims.{joined, CyclesLie, RunCycles}

-- one step before two runs that are one after the other
first_step : (b : Bool) (k c : ℕ) (s : State) (long first : Run) (rest : State → Run) →
    ((T b → ⊥) → k ≡ 0 → ⊥) →
    (first.number ≡ 0 → long ≡ joined first (rest first.last)) →
    (pick b (after s c first) (ended k s)).number ≡ 0 →
    pick b (after s c long) (ended k s) ≡ joined (pick b (after s c first) (ended k s)) (rest (pick b (after s c first) (ended k s)).last)
unfolding pick
first_step true k c s long first rest stop split h = rw (split h) (simp add_assoc)
first_step false k c s long first rest stop split h = absurd (stop (λ t. t) h)

-- from a state that 1, 2 and 3 let pass, a run of m + n steps is a run of m and then of n, where the first is not stopped
pub splits : (m n : ℕ) (e : Env) (s : State) → (run_of m e s).number ≡ 0 → run_of (m + n) e s ≡ joined (run_of m e s) (run_of n e (run_of m e s).last)
unfolding run_of
splits zero n e s h = simp zero-add
splits (suc m) n e s h =
    let o = advance_of e s in
    rw (suc-add m n)
    (first_step (eqb o.number 0) o.number o.cycles s (run_of (m + n) e o.state) (run_of m e o.state) (λ t. run_of n e t)
    (λ f z. f (eq→eqb o.number 0 z))
    (splits m n e o.state)
    h)

-- a step that is not refused takes 2 or 3 cycles

pub record TwoOrThree (n : ℕ) : Type 0 where
  pub least : 2 ≤ n
  pub most : n ≤ 3

pub cycles_lie : (c : Config) (f : Facts) → TwoOrThree (cycles_of c f)
unfolding cycles_of
cycles_lie c f =
    let h = one_le (f.input || f.load && not (eqb c.dmpipe 0)) in
    record { least = omega arith; most = omega arith }

pub step_cycles : (e : Env) (s : State) → (advance_of e s).number ≡ 0 → TwoOrThree (advance_of e s).cycles
unfolding advance_of
step_cycles e s =
    either (λ (o : Outcome). o.number ≡ 0 → TwoOrThree o.cycles) (eqb (number e s) 0) _ (refused (number e s) s)
    (λ t h. cycles_lie e.config (facts_at e s))
    (λ f h. absurd (f (eq→eqb (number e s) 0 h)))

none_lie : (n : ℕ) (s : State) → CyclesLie (ended n s)
none_lie n s = record { least = omega arith; most = omega arith }

pub run_lies : (budget : ℕ) (e : Env) (s : State) → CyclesLie (run_of budget e s)
unfolding run_of
run_lies zero e s = none_lie 0 s
run_lies (suc k) e s =
    let o = advance_of e s in
    let h = run_lies k e o.state in
    either CyclesLie (eqb o.number 0) (after s o.cycles (run_of k e o.state)) (ended o.number s)
    (λ t. lies (step_cycles e s (eqb→eq o.number 0 t)) h)
    (λ f. none_lie o.number s)
  where
    lies : {c : ℕ} {r : Run} → TwoOrThree c → CyclesLie r → CyclesLie (after s c r)
    lies p q = record { least = omega arith; most = omega arith }

pub run_cycles : RunCycles
unfolding run_call
run_cycles budget e s =
    let n = first_failing (run_guards budget e s) in
    either CyclesLie (eqb n 0) (run_of budget e s) (ended n s) (λ t. run_lies budget e s) (λ f. none_lie n s)
