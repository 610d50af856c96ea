-- The promises of step and run, from their equations and the theorems of state. Assumes nothing.
use Prim.Native.Nat.{ℕ}
use mathlib.Core.Path.{◌≡◌, refl, sym, ap, ◌∙◌}
use mathlib.Core.List.{List}
use lib.ListN.{length}
use Rattle.state.specs.State.{Env, State, state}
use Rattle.state.specs.Step.{Outcome, refused, step_of}
use Rattle.state.specs.Run.{ended, run_call}
use Rattle.state.proofs.Unchanged as unchanged
use Rattle.state.proofs.StaysValid.{step_valid}
use Rattle.state.proofs.Leaving.{leaves_image}
use Rattle.state.proofs.ComesBack.{comes_back, goes_by_zero, goes_along}
use Rattle.state.proofs.Loaded.{remembers}
use Rattle.state.proofs.Run.{run_cycles}
use Rattle.state.proofs.Calls.{run_by_steps, run_splits}
use Rattle.machine.specs.Stepping.{End, end_of}
use Rattle.machine.specs.Claims.{Steps, StepsLent, Runs, RunsLent}

pub steps : (e : Env) (s : State) (o : Outcome) → o ≡ step_of e s → Steps e s o
steps e s o q =
    record {
      answer = q;
      refused_stays = unchanged.refused_stays;
      cells_stay = unchanged.cells_stay;
      stays_valid = step_valid;
      leaves_image = leaves_image;
      comes_back = comes_back;
      goes_by_zero = goes_by_zero;
      goes_along = goes_along;
      remembers = remembers;
    }

pub runs : (budget : ℕ) (e : Env) (s : State) (x : End) → x ≡ end_of (run_call budget e s) → Runs budget e s x
runs budget e s x q =
    record {
      answer = q;
      by_steps = run_by_steps;
      splits = run_splits;
      cycles = run_cycles;
      comes_back = comes_back;
      goes_by_zero = goes_by_zero;
      goes_along = goes_along;
      remembers = remembers;
    }

-- on a lent return stack, by its length

pub steps_fit : (e : Env) (s : State) (o : Outcome) → length s.stack ≡ 63 → o ≡ step_of e s → StepsLent e s o
steps_fit e s o l q = record { fits = λ _. steps e s o q; misfit = λ n. absurd (n l) }

pub steps_misfit : (e : Env) (s : State) → (length s.stack ≡ 63 → ⊥) → StepsLent e s (refused 2 s)
steps_misfit e s n = record { fits = λ l. absurd (n l); misfit = λ _. refl }

pub runs_fit : (budget : ℕ) (e : Env) (s : State) (x : End) → length s.stack ≡ 63 → x ≡ end_of (run_call budget e s) → RunsLent budget e s x
runs_fit budget e s x l q = record { fits = λ _. runs budget e s x q; misfit = λ n. absurd (n l) }

pub runs_misfit : (budget : ℕ) (e : Env) (s : State) → (length s.stack ≡ 63 → ⊥) → RunsLent budget e s (end_of (ended 2 s))
runs_misfit budget e s n = record { fits = λ l. absurd (n l); misfit = λ _. refl }

-- a step that is refused on a copy of the return stack leaves the copy as it was
pub refused_on_copy : (e : Env) (s : State) (n : ℕ) (t : State) → (n ≡ 0 → ⊥) → Steps e s (refused n t) →
    Steps e s (refused n (state t.core s.stack t.registers t.memory t.addresses t.values))
refused_on_copy e s n t f h =
    let still : t ≡ s = ap (λ (o : Outcome). o.state) h.answer ∙ h.refused_stays e s (λ z. f (ap (λ (o : Outcome). o.number) h.answer ∙ z)) in
    steps e s _
    (ap (λ (k : List ℕ). refused n (state t.core k t.registers t.memory t.addresses t.values)) (sym (ap (λ (u : State). u.stack) still)) ∙ h.answer)
