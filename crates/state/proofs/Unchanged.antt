-- What a step leaves as it was: everything where it is refused, and every cell that the instruction does not write.
-- Assumes nothing.
use Prim.Native.Nat.{ℕ}
use mathlib.Core.Path.{◌≡◌, refl, sym, ap, ◌∙◌}
use mathlib.Core.List.{List}
use lib.Dec.{eqb}
use lib.ListN.{get_or}
use lib.Seq.{get_or-set_other}
use Rattle.std.specs.Prelude.{Option, Some, None}
use Rattle.laws.specs.Choice.{either}
use Rattle.laws.specs.First.{first_failing}
use Rattle.state.specs.declared.Write.{Write}
use Rattle.state.specs.State.{Env, State}
use Rattle.state.specs.Ranges.{guards}
use Rattle.state.specs.Step.{Outcome, refused, number, put_of, applied, plan_at, advance_of, step_of}
use Rattle.state.specs.Claims.{RefusedStays, CellsStay}
use Rattle.state.specs.Operands.{view_of}
use Rattle.state.specs.Destinations.{Destination, register_cell, data-cell}
use Rattle.state.specs.Stops.{parts_at, kind_at}
use Rattle.state.proofs.Destinations.{Hits, plan_writes}

-- what holds of the state before, and of the state that the change makes, holds after a step
module _ (P : State → Type 0) (e : Env) (s : State) (before : P s) (made : P (applied (plan_at e s) s)) where
  pub advance_holds : P (advance_of e s).state
  unfolding advance_of
  advance_holds = either (λ (o : Outcome). P o.state) (eqb (number e s) 0) _ (refused (number e s) s) (λ t. made) (λ f. before)

  pub step_holds : P (step_of e s).state
  unfolding step_of
  step_holds =
      let n = first_failing (guards e s) in
      either (λ (o : Outcome). P o.state) (eqb n 0) (advance_of e s) (refused n s) (λ t. advance_holds) (λ f. before)

-- a refused step leaves the state

abbrev Stays : State → Outcome → Type 0
Stays s o = (o.number ≡ 0 → ⊥) → o.state ≡ s

pub refused_stays : RefusedStays
unfolding step_of advance_of
refused_stays e s =
    let n = first_failing (guards e s) in
    either (Stays s) (eqb n 0) (advance_of e s) (refused n s)
    (λ t. either (Stays s) (eqb (number e s) 0) _ (refused (number e s) s) (λ u h. absurd (h refl)) (λ f h. refl))
    (λ f h. refl)

-- a write leaves every cell but its own
put_elsewhere : (f : ℕ → Destination) (d : Destination) (w : Option Write) (xs : List ℕ) (j : ℕ) → Hits f d w → (d ≡ f j → ⊥) →
    get_or (put_of w xs) j 0 ≡ get_or xs j 0
unfolding put_of
put_elsewhere f d None xs j t h = refl
put_elsewhere f d (Some w) xs j t h = get_or-set_other xs w.at j w.value 0 (λ q. h (t ∙ ap f (sym q)))

pub cells_stay : CellsStay
unfolding applied plan_at
cells_stay =
    record {
      registers = λ e s j h.
          let w = plan_writes (view_of e s) (parts_at e s) (kind_at e s) in
          step_holds (λ t. get_or t.registers j 0 ≡ get_or s.registers j 0) e s refl
          (put_elsewhere register_cell _ (plan_at e s).reg s.registers j w.registers h);
      memory = λ e s j h.
          let w = plan_writes (view_of e s) (parts_at e s) (kind_at e s) in
          step_holds (λ t. get_or t.memory j 0 ≡ get_or s.memory j 0) e s refl
          (put_elsewhere data-cell _ (plan_at e s).dm s.memory j w.memory h);
    }
