-- Every number from 4 on that stops a step or ends a run has a name. Assumes nothing.
use Prim.Native.Nat.{ℕ, zero, suc}
use mathlib.Core.Path.{◌≡◌, refl}
use mathlib.Core.Logic.{inl, inr}
use native.Mathlib.Omega.{arith}
use lib.Dec.{eqb}
use Rattle.laws.specs.Choice.{either}
use Rattle.laws.specs.First.{allowed}
use Rattle.words.specs.Words.{refusals567}
use Rattle.state.specs.State.{Env, State}
use Rattle.state.specs.Stops.{stops, stops9to15}
use Rattle.state.specs.Step.{Outcome, refused, number, advance_of}
use Rattle.state.specs.Run.{Run, ended, run_of}
use Rattle.machine.specs.declared.Stop.{Stop}
use Rattle.machine.specs.declared.Stop.TheVariants.{Unlawful, WrongLength, OutOfRange, PastImage, NoRow, Unavailable, PartTooLarge, SpecialMode, ReadAfterWrite, CallsFull, CallsEmpty, BankOutside, AddressOutside, NoInput, LogFull, BudgetTooLarge, IndexNotLoaded}
use Rattle.machine.specs.Numbers.{Numbered, stop_number}

none : Numbered 0
none = inl (omega arith)

stop_named : (e : Env) (s : State) → Numbered (number e s)
unfolding number stops stops9to15 refusals567
stop_named e s =
    allowed Numbered (stops e s) none
    (inr (inl (omega arith)), (inr (inl (omega arith)), (inr (inl (omega arith)), (inr (inl (omega arith)), (inr (inl (omega arith)), (inr (inl (omega arith)), (inr (inr refl), (inr (inl (omega arith)), (inr (inl (omega arith)), (inr (inl (omega arith)), (inr (inl (omega arith)), (inr (inl (omega arith)), (inr (inl (omega arith)), tt)))))))))))))

pub advance_named : (e : Env) (s : State) → Numbered (advance_of e s).number
unfolding advance_of
advance_named e s =
    either (λ (o : Outcome). Numbered o.number) (eqb (number e s) 0) _ (refused (number e s) s) (λ t. none) (λ f. stop_named e s)

pub run_named : (n : ℕ) (e : Env) (s : State) → Numbered (run_of n e s).number
unfolding run_of
run_named zero e s = none
run_named (suc k) e s =
    either (λ (r : Run). Numbered r.number) (eqb (advance_of e s).number 0) _ (ended (advance_of e s).number s)
    (λ t. run_named k e (advance_of e s).state)
    (λ f. advance_named e s)

-- no stop has the number 0
pub some_number : (x : Stop) → stop_number x ≡ 0 → ⊥
some_number Unlawful z = omega (arith, z)
some_number WrongLength z = omega (arith, z)
some_number OutOfRange z = omega (arith, z)
some_number PastImage z = omega (arith, z)
some_number NoRow z = omega (arith, z)
some_number Unavailable z = omega (arith, z)
some_number PartTooLarge z = omega (arith, z)
some_number SpecialMode z = omega (arith, z)
some_number ReadAfterWrite z = omega (arith, z)
some_number CallsFull z = omega (arith, z)
some_number CallsEmpty z = omega (arith, z)
some_number BankOutside z = omega (arith, z)
some_number AddressOutside z = omega (arith, z)
some_number NoInput z = omega (arith, z)
some_number LogFull z = omega (arith, z)
some_number BudgetTooLarge z = omega (arith, z)
some_number IndexNotLoaded z = omega (arith, z)
