-- `words::verdict::judge` meets its contract. Assumes nothing.
use Rattle.laws.specs.Choice.{pick}
use borrow.Author.Tests.{not-true, not-false}
use Rattle.words.specs.Answers.{refusal_number, verdict_of, refusals_by}
use Rattle.words.proofs.verdict.judge.Goals as goal

pub returns-then-not-there : goal.returns-then-not-there
unfolding verdict_of refusal_number refusals_by pick
returns-then-not-there c = rw (not-true c.args.there c.if-not-there.true-raw)

pub returns-then-not-fit : goal.returns-then-not-fit
unfolding verdict_of refusal_number refusals_by pick
returns-then-not-fit c = rw (not-false c.args.there c.if-not-there.false-raw, not-true c.args.fit c.if-not-fit.true-raw)

pub returns : goal.returns
unfolding verdict_of refusals_by pick
returns c = rw (not-false c.args.there c.if-not-there.false-raw, not-false c.args.fit c.if-not-fit.false-raw)
