-- A step and a run leave the return stack's list as long as it was.
-- Assumes nothing.
use Prim.Native.Nat.{ℕ, zero, suc}
use mathlib.Core.Path.{◌≡◌, refl, ◌∙◌}
use lib.Dec.{eqb}
use lib.ListN.{length}
use Rattle.laws.specs.Choice.{either}
use Rattle.laws.specs.First.{first_failing}
use Rattle.state.specs.State.{Env, State}
use Rattle.state.specs.Ranges.{run_guards}
use Rattle.state.specs.Step.{applied, plan_at, advance_of, step_of}
use Rattle.state.specs.Run.{Run, ended, after, run_of, run_call}
use Rattle.state.proofs.Step.{put_length}
use Rattle.state.proofs.Unchanged.{advance_holds, step_holds}

-- t's stack is as long as s's
abbrev AsLong : State → State → Type 0
AsLong s t = length t.stack ≡ length s.stack

applied_long : (e : Env) (s : State) → AsLong s (applied (plan_at e s) s)
unfolding applied
applied_long e s = put_length (plan_at e s).stack s.stack

pub step_long : (e : Env) (s : State) → AsLong s (step_of e s).state
step_long e s = step_holds (AsLong s) e s refl (applied_long e s)

run_long : (budget : ℕ) (e : Env) (s : State) → AsLong s (run_of budget e s).last
unfolding run_of
run_long zero e s = refl
run_long (suc k) e s =
    let o = advance_of e s in
    either (λ (r : Run). AsLong s r.last) (eqb o.number 0) (after s o.cycles (run_of k e o.state)) (ended o.number s)
    (λ t. run_long k e o.state ∙ advance_holds (AsLong s) e s refl (applied_long e s))
    (λ f. refl)

pub run_call_long : (budget : ℕ) (e : Env) (s : State) → AsLong s (run_call budget e s).last
unfolding run_call
run_call_long budget e s =
    let n = first_failing (run_guards budget e s) in
    either (λ (r : Run). AsLong s r.last) (eqb n 0) (run_of budget e s) (ended n s) (λ t. run_long budget e s) (λ f. refl)
