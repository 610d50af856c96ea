-- `parsing::hex::first_word` meets its contract. Assumes nothing.
use Rattle.std.proofs.Common.{◌<◌, get_or, arith, refl}
use Rattle.parsing.proofs.hex.Laws.{begun_none, empty_line, line_ends, too_long, no_digit, one_more, last_line, room}
use Rattle.parsing.proofs.hex.first_word.Goals as goal

pub loop-i-init : goal.loop-i-init
loop-i-init c = begun_none _

pub returns-then-i-eq0 : goal.returns-then-i-eq0
returns-then-i-eq0 c = empty_line _ _ _ c.loop-i.invariant c.loop-i-test.true c.if-b-eq10.true c.if-i-eq0.true

pub returns-then-b-eq10 : goal.returns-then-b-eq10
returns-then-b-eq10 c = line_ends _ _ _ c.loop-i.invariant c.loop-i-test.true c.if-b-eq10.true c.if-i-eq0.false

pub returns-then-i-eq-MOST_DIGITS : goal.returns-then-i-eq-MOST_DIGITS
returns-then-i-eq-MOST_DIGITS c = too_long _ _ _ c.loop-i.invariant c.loop-i-test.true c.if-b-eq10.false c.if-i-eq-MOST_DIGITS.true

pub returns-in_err-digit : goal.returns-in_err-digit
returns-in_err-digit c =
    let byte : get_or c.args.text.now c.loop-i.i 0 < 256 = omega (arith, c.type_inv.text c.loop-i.i) in
    rw c.from_residual.ensures
    (no_digit _ _ _ c.loop-i.invariant c.loop-i-test.true c.if-b-eq10.false byte (rw c.from.ensures at c.in_err-digit.ensures.value))

pub overflow_add-word : goal.overflow_add-word
overflow_add-word c =
    let few = c.loop-i.invariant.few in
    let digit = c.in_ok-digit.ensures.value in
    let n = c.if-i-eq-MOST_DIGITS.false in
    let below = room c.loop-i.i c.loop-i.word c.in_ok-digit.digit (omega (arith, n)) c.loop-i.invariant.small (omega (arith, digit.0, digit.1)) in
    omega (arith, below)

pub loop-i-preserved : goal.loop-i-preserved
loop-i-preserved c =
    let byte : get_or c.args.text.now c.loop-i.i 0 < 256 = omega (arith, c.type_inv.text c.loop-i.i) in
    let digit = rw c.from.ensures at c.in_ok-digit.ensures.value in
    one_more _ _ _ c.loop-i.invariant c.loop-i-test.true c.if-b-eq10.false byte c.if-i-eq-MOST_DIGITS.false _ _ digit.0 digit.1 refl

pub returns : goal.returns
returns c = last_line _ _ _ c.loop-i.invariant c.loop-i-test.false (omega arith) c.requires
