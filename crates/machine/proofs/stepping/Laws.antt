-- The public calls: a step is a run of one step.
-- Assumes nothing.
use Prim.Native.Nat.{ℕ}
use mathlib.Core.Path.{◌≡◌, refl, sym, ap, ◌∙◌}
use mathlib.Core.Bool.{Bool, true, false}
use native.Mathlib.Nat.{add-zero}
use borrow.Author.Tests.{eqb-true, eqb-false}
use lib.Dec.{eqb}
use Rattle.laws.specs.Choice.{pick}
use Rattle.state.specs.State.{Env, State, state}
use Rattle.state.specs.Stops.{facts_at}
use Rattle.state.specs.Step.{Outcome, refused, applied, plan_at, cycles_of, advance_of}
use Rattle.state.specs.Run.{ended, after, run_of}
use Rattle.machine.specs.Stepping.{End, end_of}
use Rattle.machine.specs.Numbers.{Numbered}
use Rattle.machine.proofs.Numbers.{advance_named, run_named}

-- a run of one step is that step

same_outcome : {n m c k : ℕ} {s : State} → n ≡ m → c ≡ k →
    ◌≡◌ {A = Outcome} (record { number = n; cycles = c; state = s }) (record { number = m; cycles = k; state = s })
same_outcome p q = rw (p, q)

abbrev outcome : End → Outcome
outcome x = record { number = x.number; cycles = x.cycles; state = x.last }

only : (o : Outcome) (s : State) → ((o.number ≡ 0 → ⊥) → o ≡ refused o.number s) →
    outcome (end_of (pick (eqb o.number 0) (after s o.cycles (ended 0 o.state)) (ended o.number s))) ≡ o
unfolding pick
only o s h = go (eqb o.number 0) refl
  where
    go : (b : Bool) → eqb o.number 0 ≡ b →
        outcome (end_of (pick b (after s o.cycles (ended 0 o.state)) (ended o.number s))) ≡ o
    go true q = same_outcome (sym (eqb-true o.number 0 q)) (add-zero o.cycles)
    go false q = sym (h (eqb-false o.number 0 q))

refusing : (e : Env) (s : State) → ((advance_of e s).number ≡ 0 → ⊥) → advance_of e s ≡ refused (advance_of e s).number s
unfolding advance_of pick
refusing e s = go (eqb (Rattle.state.specs.Step.number e s) 0)
  where
    go : (b : Bool) → ((pick b (record { number = 0; cycles = cycles_of e.config (facts_at e s); state = applied (plan_at e s) s }) (refused (Rattle.state.specs.Step.number e s) s)).number ≡ 0 → ⊥) →
        pick b (record { number = 0; cycles = cycles_of e.config (facts_at e s); state = applied (plan_at e s) s }) (refused (Rattle.state.specs.Step.number e s) s) ≡
        refused (pick b (record { number = 0; cycles = cycles_of e.config (facts_at e s); state = applied (plan_at e s) s }) (refused (Rattle.state.specs.Step.number e s) s)).number s
    go true n = absurd (n refl)
    go false n = refl

pub one_step : (e : Env) (s : State) (x : End) → x ≡ end_of (run_of 1 e s) → outcome x ≡ advance_of e s
unfolding run_of
one_step e s x q = ap outcome q ∙ only (advance_of e s) s (refusing e s)

module _ (e : Env) (s : State) (x : End) (q : x ≡ end_of (run_of 1 e s)) where
  pub step_named : Numbered x.number
  step_named = rw (ap (λ (o : Outcome). o.number) (one_step e s x q)) (advance_named e s)

  -- one that is carried out
  pub passed_step : 0 ≡ x.number → ◌≡◌ {A = Outcome} (record { number = 0; cycles = x.cycles; state = x.last }) (advance_of e s)
  passed_step z = same_outcome z refl ∙ one_step e s x q

  -- one that is stopped: it left the state as it was
  pub stopped_step : (n : ℕ) → n ≡ x.number → (n ≡ 0 → ⊥) →
      refused n (state s.core x.last.stack x.last.registers x.last.memory x.last.addresses x.last.values) ≡ advance_of e s
  stopped_step n k h =
      let a = one_step e s x q in
      let named : n ≡ (advance_of e s).number = k ∙ ap (λ (o : Outcome). o.number) a in
      let r = refusing e s (λ z. h (named ∙ z)) in
      let still : x.last ≡ s = ap (λ (o : Outcome). o.state) (a ∙ r) in
      ap (λ (t : State). refused n (state s.core t.stack t.registers t.memory t.addresses t.values)) still ∙ (ap (λ (j : ℕ). refused j s) named ∙ sym r)

-- the end of a run with its number written in another way
pub renumbered : (n : ℕ) (x : End) → n ≡ x.number → ◌≡◌ {A = End} (record { number = n; steps = x.steps; cycles = x.cycles; last = x.last }) x
renumbered n x q = ap (λ (j : ℕ). record { number = j; steps = x.steps; cycles = x.cycles; last = x.last }) q

pub turns_named : (e : Env) (s : State) (n : ℕ) (x : End) → x ≡ end_of (run_of n e s) → Numbered x.number
turns_named e s n x q = rw (ap (λ (y : End). y.number) q) (run_named n e s)
