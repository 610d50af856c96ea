-- `words::verdict::parts_fit` meets its contract. Assumes nothing.
use Prim.Native.Nat.{◌/◌, ◌%◌}
use native.Mathlib.Omega.{arith}
use Rattle.words.specs.Words.{fits}
use Rattle.words.proofs.Parts.{lowest_digit, range_here}
use Rattle.words.proofs.verdict.parts_fit.Goals as goal

pub returns : goal.returns
unfolding fits
returns c =
    let e = c.limit_table-limits.ensures in
    let p = c.args.p in
    let i = c.args.i in
    rw (
      c.value_below-flag.ensures,
      c.digit.ensures,
      lowest_digit p,
      range_here c.args.c c.limit_table-limits.result (p % 16) i.flag e (omega arith),
      c.value_below-number.ensures,
      c.digit-2.ensures,
      range_here c.args.c c.limit_table-limits.result (p / 0x10 % 16) i.number e (omega arith),
      c.value_below-destination.ensures,
      c.digit-3.ensures,
      range_here c.args.c c.limit_table-limits.result (p / 0x100 % 16) i.destination e (omega arith),
      c.value_below-source.ensures,
      c.digit-4.ensures,
      range_here c.args.c c.limit_table-limits.result (p / 0x1000 % 16) i.source e (omega arith),
      c.value_below-value.ensures,
      c.digit-5.ensures,
      range_here c.args.c c.limit_table-limits.result (p / 0x10000 % 16) i.value e (omega arith),
    )
