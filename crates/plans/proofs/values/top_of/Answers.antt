-- `plans::values::top_of` meets its contract. Assumes nothing.
use Rattle.std.proofs.Common.{◌≢◌, arith, ne_eqb}
use Rattle.laws.specs.Choice.{pick}
use Rattle.arith.specs.Width.{bits}
use Rattle.plans.proofs.values.top_of.Goals as goal

pub returns-in-8 : goal.returns-in-8
unfolding bits pick
returns-in-8 c = ((rw c.in-8.is), omega arith, omega arith)

pub returns-in-16 : goal.returns-in-16
unfolding bits pick
returns-in-16 c = ((rw c.in-16.is), omega arith, omega arith)

pub returns-in_default : goal.returns-in_default
unfolding bits pick
returns-in_default c =
    let not_8 : c.args.width ≢ 8 = omega arith in
    let not_16 : c.args.width ≢ 16 = omega arith in
    ((simp (ne_eqb _ _ not_8, ne_eqb _ _ not_16)), omega arith, omega arith)
