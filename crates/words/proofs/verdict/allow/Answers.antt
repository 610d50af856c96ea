-- `words::verdict::allow` meets its contract. Assumes nothing.
use mathlib.Core.Path.{◌∙◌}
use native.Mathlib.Omega.{arith}
use Rattle.words.proofs.Answers.{by_verdict, by_no_verdict}
use Rattle.words.proofs.verdict.allow.Goals as goal

pub option_lent-there-requires : goal.option_lent-there-requires
option_lent-there-requires c = omega (arith, c.digit.ensures)

pub returns-then-i-ge-ROW_COUNT : goal.returns-then-i-ge-ROW_COUNT
returns-then-i-ge-ROW_COUNT c = by_no_verdict _ _ _ _ _ c.if-i-ge-ROW_COUNT.true

pub returns : goal.returns
returns c = c.judge.ensures ∙ by_verdict _ _ _ _ _ _ _ _ c.if-i-ge-ROW_COUNT.false c.at_or-p.ensures (rw c.digit.ensures at c.option_lent-there.ensures) c.fits_lent.ensures
