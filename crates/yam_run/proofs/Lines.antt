-- From what the code puts to what is printed of a run and of a step. Assumes nothing.
use Rattle.std.proofs.Common.{◌≡◌, ℕ, ◌+◌, ◌%◌, ◌^◌, List, [], Option, Some, None, refl, subst, arith, eq-eqb, ne_eqb}
use Rattle.laws.specs.Choice.{pick}
use Rattle.words.specs.declared.Config.{Config}
use Rattle.state.specs.declared.Machine.{Machine}
use Rattle.state.specs.State.{State, env, reset_machine}
use Rattle.state.specs.Step.{Outcome, step_of}
use Rattle.machine.specs.declared.Ran.{Ran}
use Rattle.machine.specs.declared.Stop.{Stop}
use Rattle.machine.specs.declared.Stop.TheVariants.{Unlawful, WrongLength, OutOfRange, PastImage, NoRow, Unavailable, PartTooLarge, SpecialMode, ReadAfterWrite, CallsFull, CallsEmpty, BankOutside, AddressOutside, NoInput, LogFull, BudgetTooLarge, IndexNotLoaded}
use Rattle.machine.specs.Numbers.{number_of}
use Rattle.machine.specs.Stepping.{End, ran_end}
use Rattle.printing.specs.Numerals.{refusal_line}
use Rattle.printing.specs.Puts.{Puts}
use Rattle.printing.specs.declared.printer.Printer.{Printer}
use Rattle.printing.specs.Printers.{Prints}
use Rattle.report.specs.Report.{report_of}
use Rattle.report.specs.Trace.{trace_line}
use Rattle.yam_run.specs.Running.{end_text, line_of}

-- 16 is the number of a budget too large, and of nothing else
pub budget_alone : (x : Option Stop) → number_of x ≡ 16 → x ≡ Some BudgetTooLarge
budget_alone None z = absurd (omega (arith, z))
budget_alone (Some Unlawful) z = absurd (omega (arith, z))
budget_alone (Some WrongLength) z = absurd (omega (arith, z))
budget_alone (Some OutOfRange) z = absurd (omega (arith, z))
budget_alone (Some PastImage) z = absurd (omega (arith, z))
budget_alone (Some NoRow) z = absurd (omega (arith, z))
budget_alone (Some Unavailable) z = absurd (omega (arith, z))
budget_alone (Some PartTooLarge) z = absurd (omega (arith, z))
budget_alone (Some SpecialMode) z = absurd (omega (arith, z))
budget_alone (Some ReadAfterWrite) z = absurd (omega (arith, z))
budget_alone (Some CallsFull) z = absurd (omega (arith, z))
budget_alone (Some CallsEmpty) z = absurd (omega (arith, z))
budget_alone (Some BankOutside) z = absurd (omega (arith, z))
budget_alone (Some AddressOutside) z = absurd (omega (arith, z))
budget_alone (Some NoInput) z = absurd (omega (arith, z))
budget_alone (Some LogFull) z = absurd (omega (arith, z))
budget_alone (Some BudgetTooLarge) z = refl
budget_alone (Some IndexNotLoaded) z = absurd (omega (arith, z))

module _ {p q : Printer} (c : Config) (e : End) where
  pub budget_put : e.number ≡ 16 → Prints p (refusal_line e.number) q → Prints p (end_text c e) q
  unfolding end_text pick
  budget_put z h = rw (eq-eqb e.number 16 z) h

  pub report_put : (e.number ≡ 16 → ⊥) →
      Prints p (report_of c e.number e.steps e.cycles e.last.core e.last.stack e.last.registers e.last.addresses e.last.values) q → Prints p (end_text c e) q
  unfolding end_text pick
  report_put n h = rw (ne_eqb e.number 16 n) h

-- a run's answer is the definition's, and the memory is not printed
pub run_put : {p q : Printer} (c : Config) (r : Ran Machine) (registers memory addresses values : List ℕ) (m : Machine) (f : Machine → End) → m ≡ reset_machine →
    ran_end r registers memory addresses values ≡ f m → Prints p (end_text c (ran_end r registers [] addresses values)) q → Prints p (end_text c (f reset_machine)) q
unfolding end_text
run_put {p} {q} c r registers memory addresses values m f e k h =
    subst (λ (z : Machine). Prints p (end_text c (f z)) q) e (subst (λ (z : End). Prints p (end_text c z) q) k h)

-- a step that was carried out
pub trace_put : {p q : List ℕ} {r : ℕ} (c : Config) (image inputs : List ℕ) (s : State) (step cycles : ℕ) (o : Outcome) (t : ℕ) (oldr oldm : List ℕ) →
    o ≡ step_of (env c image inputs) s → t ≡ (cycles + o.cycles) % 2 ^ 64 → oldr ≡ s.registers → oldm ≡ s.memory →
    Puts p 0 (trace_line c image step t s.core o.state.core o.state.stack oldr o.state.registers oldm o.state.memory o.state.addresses o.state.values) r q →
    Puts p 0 (line_of c image step cycles s (step_of (env c image inputs) s)) r q
trace_put {p} {q} {r} c image inputs s step cycles o t oldr oldm e u v w h =
    subst (λ (z : Outcome). Puts p 0 (line_of c image step cycles s z) r q) e (rw (← u, ← v, ← w) h)
