-- `printing::digits::digit_count` meets its contract. Assumes nothing.
use mathlib.Core.Path.{ap, ◌∙◌}
use Prim.Native.Nat.{ℕ, ◌/◌}
use native.Mathlib.Omega.{arith}
use Rattle.printing.proofs.Powers.{one_power, next_power, goes_on, ends}
use Rattle.printing.proofs.digits.digit_count.Goals as goal

pub loop-rest-init : goal.loop-rest-init
loop-rest-init c = (omega arith, omega arith, one_power c.args.n, omega arith)

pub loop-rest-preserved : goal.loop-rest-preserved
loop-rest-preserved c =
    let l = c.loop-rest in
    let n = c.args.n in (
      omega arith,
      omega arith,
      ap (λ (m : ℕ). m / 10) l.invariant.2 ∙ next_power n l.k,
      λ _. goes_on n l.k l.rest l.invariant.2 (omega arith),
    )

pub returns : goal.returns
returns c =
    let l = c.loop-rest in
    (omega arith, ends c.args.n l.k l.rest l.invariant.2 (omega arith), λ more. l.invariant.3 (omega arith))
