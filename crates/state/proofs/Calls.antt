-- The public calls by what 1, 2, 3 and 16 say, and a run call by step calls and by shorter run calls.
-- Assumes nothing.
use Prim.Native.Nat.{ℕ, suc, ◌+◌, ◌≤◌, ◌<◌}
use mathlib.Core.Path.{◌≡◌, refl, sym, ap, ◌∙◌}
use mathlib.Core.Bool.{Bool, true, false}
use mathlib.Core.List.{[], ◌∷◌}
use native.Mathlib.Nat.{lt_of_not-le}
use native.Mathlib.Omega.{arith}
use borrow.Author.Tests.{le-leb, lt-leb, eq-eqb, ne_eqb, eqb-true, eqb-false}
use lib.Dec.{leb, eqb, eqb→eq}
use Rattle.laws.specs.Choice.{pick, either}
use Rattle.laws.specs.Test.{Holds, eq→eqb}
use Rattle.laws.specs.First.{first_failing, first_append, none_fails}
use Rattle.state.specs.State.{Env, State}
use Rattle.state.specs.Ranges.{guards, budget_fits, run_guards}
use Rattle.state.specs.Step.{Outcome, refused, number, applied, plan_at, advance_of, step_of}
use Rattle.state.specs.Run.{Run, ended, after, run_of, run_call}
use Rattle.state.specs.Good.{Good}
use Rattle.state.specs.Claims.{Follows, Halts, RunBySteps, RunSplits}
use Rattle.state.proofs.Ranges.{accepted, passes}
use Rattle.state.proofs.StaysValid.{stays_good, run_good}
use Rattle.state.proofs.Run.{splits}

pub step_refused : (e : Env) (s : State) (n : ℕ) → n ≡ first_failing (guards e s) → (n ≡ 0 → ⊥) → refused n s ≡ step_of e s
unfolding step_of pick
step_refused e s n p h = rw (← p, ne_eqb _ _ h)

pub step_taken : (e : Env) (s : State) (n : ℕ) → n ≡ first_failing (guards e s) → n ≡ 0 → advance_of e s ≡ step_of e s
unfolding step_of pick
step_taken e s n p z = rw (← p, z)

pub run_number : (e : Env) (s : State) (budget n : ℕ) → n ≡ first_failing (guards e s) →
    first_failing (run_guards budget e s) ≡ pick (eqb n 0) (pick (leb budget 1000000) 0 16) n
unfolding guards
run_number e s budget n p = first_append (guards e s) ((16, budget_fits budget) ∷ []) tt ∙ rw (← p)

pub run_refused : (e : Env) (s : State) (budget n : ℕ) → n ≡ first_failing (guards e s) → (n ≡ 0 → ⊥) → ended n s ≡ run_call budget e s
unfolding run_call pick
run_refused e s budget n p h = simp (run_number e s budget n p, ne_eqb _ _ h)

pub run_too_long : (e : Env) (s : State) (budget n : ℕ) → n ≡ first_failing (guards e s) → n ≡ 0 → 1000000 < budget →
    ended 16 s ≡ run_call budget e s
unfolding run_call pick
run_too_long e s budget n p z h = simp (run_number e s budget n p, z, lt-leb _ _ h)

pub run_taken : (e : Env) (s : State) (budget n : ℕ) → n ≡ first_failing (guards e s) → n ≡ 0 → budget ≤ 1000000 →
    run_of budget e s ≡ run_call budget e s
unfolding run_call pick
run_taken e s budget n p z h = simp (run_number e s budget n p, z, le-leb _ _ h)

run_good_call : (e : Env) (s : State) (budget : ℕ) → Good e s → budget ≤ 1000000 → run_call budget e s ≡ run_of budget e s
run_good_call e s budget g h = sym (run_taken e s budget 0 (sym (passes e s g)) refl h)

-- a step first, and then the run of the rest
one_more : (k : ℕ) (e : Env) (s : State) → Holds (budget_fits (suc k)) →
    run_call (suc k) e s ≡
    pick (eqb (step_of e s).number 0) (after s (step_of e s).cycles (run_call k e (step_of e s).state)) (ended (step_of e s).number s)
unfolding run_of pick
one_more k e s h = go (eqb (first_failing (guards e s)) 0) refl
  where
    go : (b : Bool) → eqb (first_failing (guards e s)) 0 ≡ b →
        run_call (suc k) e s ≡
        pick (eqb (step_of e s).number 0) (after s (step_of e s).cycles (run_call k e (step_of e s).state)) (ended (step_of e s).number s)
    go true q =
        let z = eqb-true (first_failing (guards e s)) 0 q in
        let g = accepted e s z in
        rw (← step_taken e s (first_failing (guards e s)) refl z, run_good_call e s (suc k) g h, run_good_call e (advance_of e s).state k (stays_good e s g) (omega (arith, h))) refl
    go false q =
        let n = eqb-false (first_failing (guards e s)) 0 q in
        rw (← run_refused e s (suc k) (first_failing (guards e s)) refl n, ← step_refused e s (first_failing (guards e s)) refl n)
        (sym (ap (λ b. pick b (after s 0 (run_call k e s)) (ended (first_failing (guards e s)) s)) (ne_eqb _ _ n)))

-- what a step did not refuse, 1, 2 and 3 had let pass
pub step_accepted : (e : Env) (s : State) → (step_of e s).number ≡ 0 → Good e s
step_accepted e s z = go (eqb (first_failing (guards e s)) 0) refl
  where
    go : (b : Bool) → eqb (first_failing (guards e s)) 0 ≡ b → Good e s
    go true q = accepted e s (eqb-true (first_failing (guards e s)) 0 q)
    go false q =
        let n = eqb-false (first_failing (guards e s)) 0 q in
        absurd (n (ap (λ o. o.number) (step_refused e s (first_failing (guards e s)) refl n) ∙ z))

-- a step that is carried out applies its plan
pub record Applies (e : Env) (s : State) (o : Outcome) : Type 0 where
  pub passed : number e s ≡ 0
  pub made : o.state ≡ applied (plan_at e s) s

pub advance_applies : (e : Env) (s : State) → (advance_of e s).number ≡ 0 → Applies e s (advance_of e s)
unfolding advance_of
advance_applies e s =
    either (λ (o : Outcome). o.number ≡ 0 → Applies e s o) (eqb (number e s) 0) _ (refused (number e s) s)
    (λ u z. record { passed = eqb→eq (number e s) 0 u; made = refl })
    (λ f z. absurd (f (eq→eqb (number e s) 0 z)))

pub step_applies : (e : Env) (s : State) → (step_of e s).number ≡ 0 → Applies e s (step_of e s)
step_applies e s z =
    let q = step_taken e s (first_failing (guards e s)) refl (passes e s (step_accepted e s z)) in
    rw (← q) (advance_applies e s (ap (λ o. o.number) q ∙ z))

halts : (s : State) (n : ℕ) (r : Run) → r ≡ ended n s → Halts s n r
halts s n r q =
    record {
      number = ap (λ x. x.number) q;
      steps = ap (λ x. x.steps) q;
      cycles = ap (λ x. x.cycles) q;
      last = ap (λ x. x.last) q;
      seen = ap (λ x. x.seen) q;
    }

follows : (s : State) (o : Outcome) (q r : Run) → r ≡ after s o.cycles q → Follows s o q r
follows s o q r p =
    record {
      number = ap (λ x. x.number) p;
      steps = ap (λ x. x.steps) p;
      cycles = ap (λ x. x.cycles) p;
      last = ap (λ x. x.last) p;
      seen = ap (λ x. x.seen) p;
    }

pub run_by_steps : RunBySteps
unfolding run_of pick
run_by_steps =
    record {
      none = λ e s v. halts s 0 (run_call 0 e s) (sym (run_taken e s 0 0 (sym (none_fails (guards e s) v)) refl (omega arith)));
      goes_on = λ k e s h z.
          follows s (step_of e s) (run_call k e (step_of e s).state) (run_call (suc k) e s) (one_more k e s h ∙ rw (eq-eqb (step_of e s).number 0 z));
      stops = λ k e s h n. halts s (step_of e s).number (run_call (suc k) e s) (one_more k e s h ∙ rw (ne_eqb (step_of e s).number 0 n));
      refused = λ budget e s h.
          halts s (first_failing (guards e s)) (run_call budget e s) (sym (run_refused e s budget (first_failing (guards e s)) refl h));
      too_long = λ budget e s v h.
          halts s 16 (run_call budget e s)
          (sym (run_too_long e s budget 0 (sym (none_fails (guards e s) v)) refl (lt_of_not-le h)));
    }

-- a run call that was not stopped was let pass by 1, 2 and 3
run_accepted : (e : Env) (s : State) (budget : ℕ) → (run_call budget e s).number ≡ 0 → first_failing (guards e s) ≡ 0
run_accepted e s budget h = go (eqb (first_failing (guards e s)) 0) refl
  where
    go : (b : Bool) → eqb (first_failing (guards e s)) 0 ≡ b → first_failing (guards e s) ≡ 0
    go true q = eqb-true (first_failing (guards e s)) 0 q
    go false q =
        let n = eqb-false (first_failing (guards e s)) 0 q in
        absurd (n (ap (λ r. r.number) (run_refused e s budget (first_failing (guards e s)) refl n) ∙ h))

pub run_splits : RunSplits
run_splits m n e s fits h =
    let g = accepted e s (run_accepted e s m h) in
    let first = run_good_call e s m g (omega (arith, fits)) in
    let last = (run_good m e s g).last in
    rw (run_good_call e s (m + n) g fits, first, run_good_call e (run_of m e s).last n last (omega (arith, fits)))
    (splits m n e s (sym (ap (λ r. r.number) first) ∙ h))

-- what a run call that did a step leaves, 1, 2 and 3 let pass
pub run_leaves_good : (budget : ℕ) (e : Env) (s : State) → Good e s → Good e (run_call budget e s).last
unfolding run_call
run_leaves_good budget e s g =
    let n = first_failing (run_guards budget e s) in
    either (λ (r : Run). Good e r.last) (eqb n 0) (run_of budget e s) (ended n s) (λ t. (run_good budget e s g).last) (λ f. g)

-- where one was done, they had let the state pass
pub run_did : (e : Env) (s : State) (budget : ℕ) → ((run_call budget e s).steps ≡ 0 → ⊥) → Good e s
run_did e s budget h = go (eqb (first_failing (guards e s)) 0) refl
  where
    go : (b : Bool) → eqb (first_failing (guards e s)) 0 ≡ b → Good e s
    go true q = accepted e s (eqb-true (first_failing (guards e s)) 0 q)
    go false q =
        let n = eqb-false (first_failing (guards e s)) 0 q in
        absurd (h (ap (λ r. r.steps) (sym (run_refused e s budget (first_failing (guards e s)) refl n))))
