-- `yam_run::run::put_ran` meets its contract. Assumes nothing.
use mathlib.Core.Path.{◌≡◌, ap}
use borrow.Author.Rules.{rules}
use Rattle.std.proofs.Common.{[], Some}
use Rattle.machine.specs.declared.Stop.TheVariants.{BudgetTooLarge}
use Rattle.machine.specs.Numbers.{number_of}
use Rattle.machine.specs.Stepping.{ran_end}
use Rattle.yam_run.proofs.Lines.{budget_alone, budget_put, report_put}
use Rattle.yam_run.proofs.run.put_ran.Goals as goal

pub returns-then-eq : goal.returns-then-eq
returns-then-eq c =
    let s : c.args.r.stop ≡ Some BudgetTooLarge = search rules in
    budget_put c.args.c (ran_end c.args.r c.args.lent.now.registers.now [] c.args.lent.now.addresses.now c.args.lent.now.values.now) (ap number_of s) (rw (← c.number-number.ensures) c.refusal.ensures)

pub returns : goal.returns
returns c =
    let n : c.args.r.stop ≡ Some BudgetTooLarge → ⊥ = search rules in
    report_put c.args.c (ran_end c.args.r c.args.lent.now.registers.now [] c.args.lent.now.addresses.now c.args.lent.now.values.now) (λ z. n (budget_alone _ z)) (rw (← c.number-number.ensures) c.put_left.ensures)
