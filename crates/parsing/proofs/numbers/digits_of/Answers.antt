-- `parsing::numbers::digits_of` meets its contract. Assumes nothing.
use Rattle.std.proofs.Common.{◌<◌, ◌∙◌, get_or, arith}
use Rattle.parsing.proofs.numbers.Laws.{breaks, goes_on, done}
use Rattle.parsing.proofs.numbers.digits_of.Goals as goal

pub returns-in_err-digit : goal.returns-in_err-digit
returns-in_err-digit c =
    let byte : get_or c.args.text.now c.loop-b.b-index 0 < 256 = omega (arith, c.type_inv.text c.loop-b.b-index) in
    c.from_residual.ensures ∙
    breaks _ c.requires.low c.requires.high _ _ _ c.loop-b.invariant.1 c.loop-b-test.true byte (rw c.from.ensures at c.in_err-digit.ensures.value)

pub loop-b-preserved : goal.loop-b-preserved
loop-b-preserved c =
    let byte : get_or c.args.text.now c.loop-b.b-index 0 < 256 = omega (arith, c.type_inv.text c.loop-b.b-index) in
    let digit = rw c.from.ensures at c.in_ok-digit.ensures.value in (
      omega arith,
      goes_on _ c.requires.low c.requires.high _ _ _ c.loop-b.invariant.1 c.loop-b-test.true byte c.in_ok-digit.digit _ digit.0 digit.1
          (c.min-value.ensures ∙ rw (c.from-in-loop-b.ensures, c.from-in-loop-b-2.ensures)),
    )

pub returns : goal.returns
returns c = done _ c.requires.low c.requires.high _ _ _ c.loop-b.invariant.1 c.loop-b-test.false c.loop-b.invariant.0
