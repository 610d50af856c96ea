-- `printing::digits::decimal` meets its contract. Assumes nothing.
use native.Mathlib.Omega.{arith}
use Rattle.printing.proofs.Powers.{count_fits}
use Rattle.printing.proofs.digits.decimal.Goals as goal

pub write_digits-requires : goal.write_digits-requires
write_digits-requires c = omega (arith, count_fits c.args.n c.digit_count-k.result c.digit_count-k.ensures c.ranges.n.fits)

pub returns-clause-in_bounds : goal.returns-clause-in_bounds
returns-clause-in_bounds c = omega (arith, count_fits c.args.n c.digit_count-k.result c.digit_count-k.ensures c.ranges.n.fits)
