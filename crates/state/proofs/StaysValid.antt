-- A state that 1, 2 and 3 let pass is let pass again after a step, and so is every state of a run.
-- Assumes nothing.
use Prim.Native.Nat.{ℕ, zero, suc}
use mathlib.Core.Path.{◌≡◌}
use lib.Dec.{eqb, eqb→eq}
use lib.ListN.{length}
use Rattle.laws.specs.Choice.{either}
use Rattle.laws.specs.First.{Every, first_failing}
use Rattle.laws.specs.Test.{eq→eqb}
use Rattle.state.specs.State.{Env, State}
use Rattle.state.specs.Ranges.{guards}
use Rattle.state.specs.Step.{Outcome, refused, number, plan_at, advance_of, step_of}
use Rattle.state.specs.Run.{Run, ended, after, run_of}
use Rattle.state.specs.Claims.{Valid, StepValid}
use Rattle.state.specs.Good.{Good}
use Rattle.state.proofs.Ranges.{good, valid, accepted}
use Rattle.state.proofs.Stops.{told}
use Rattle.state.specs.Landing.{Landing}
use Rattle.state.proofs.Step.{applied_good}
use Rattle.state.proofs.Plans.{plan_sound}

pub stays_good : (e : Env) (s : State) → Good e s → Good e (advance_of e s).state
unfolding advance_of
stays_good e s g =
    either (λ (o : Outcome). Good e o.state) (eqb (number e s) 0) _ (refused (number e s) s)
    (λ t. applied_good e s (plan_at e s) g (plan_sound e s g (told e s (eqb→eq (number e s) 0 t))))
    (λ f. g)

-- and what such a step writes falls on cells that are there
pub lands : (e : Env) (s : State) → Good e s → number e s ≡ 0 → Landing e.config.rmsize e.config.dmsize (length s.addresses) (plan_at e s)
lands e s g z = (plan_sound e s g (told e s z)).landing

-- so 1, 2 and 3 let it pass again
pub stays_valid : (e : Env) (s : State) → Valid e s → Valid e (advance_of e s).state
stays_valid e s h = valid e (advance_of e s).state (stays_good e s (good e s h))

-- what a step hands back is not refused with 1, 2 or 3
pub step_valid : StepValid
unfolding step_of
step_valid e s =
    let n = first_failing (guards e s) in
    either (λ (o : Outcome). o.number ≡ 0 → Valid e o.state) (eqb n 0) (advance_of e s) (refused n s)
    (λ t h. stays_valid e s (valid e s (accepted e s (eqb→eq n 0 t))))
    (λ f h. absurd (f (eq→eqb n 0 h)))

-- the states that a run's steps were taken from, and the last
pub record GoodRun (e : Env) (r : Run) : Type 0 where
  pub seen : Every (Good e) r.seen
  pub last : Good e r.last

pub run_good : (budget : ℕ) (e : Env) (s : State) → Good e s → GoodRun e (run_of budget e s)
unfolding run_of
run_good zero e s g = record { seen = tt; last = g }
run_good (suc k) e s g =
    let o = advance_of e s in
    let h = run_good k e o.state (stays_good e s g) in
    either (GoodRun e) (eqb o.number 0) (after s o.cycles (run_of k e o.state)) (ended o.number s)
    (λ t. record { seen = (g, h.seen); last = h.last })
    (λ f. record { seen = tt; last = g })
