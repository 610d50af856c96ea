-- `certificate::searching::first_broken` meets its contract. Assumes nothing.
use mathlib.Core.Path.{sym, ap, ◌∙◌}
use native.Mathlib.Omega.{arith}
use Rattle.certificate.specs.Answers.{rule_of, answer_of}
use Rattle.certificate.specs.declared.marks.Mark.{Mark}
use Rattle.certificate.proofs.searching.Laws.{begins, rule_above, goes_on, stops, passes}
use Rattle.certificate.proofs.searching.first_broken.Goals as goal

pub loop-a-init : goal.loop-a-init
loop-a-init c = begins c.args.sheet.now.reader.now.config c.args.sheet.now.image.now c.args.sheet.now.certificate.now

pub returns-in-Some : goal.returns-in-Some
unfolding answer_of
returns-in-Some c = stops c.args.sheet.now.reader.now.config c.args.sheet.now.image.now c.args.sheet.now.certificate.now c.loop-a.a _ (omega (arith, c.loop-a-test.true)) (sym (ap rule_of c.in-Some.is) ∙ c.rule_at.ensures) (rule_above c.in-Some.rule) ∙ sym c.loop-a.invariant

pub loop-a-preserved : goal.loop-a-preserved
loop-a-preserved c = c.loop-a.invariant ∙ goes_on c.args.sheet.now.reader.now.config c.args.sheet.now.image.now c.args.sheet.now.certificate.now c.loop-a.a (omega (arith, c.loop-a-test.true)) (sym c.rule_at.ensures ∙ ap rule_of c.in_default.is)

pub returns : goal.returns
unfolding answer_of
returns c = rw (c.from.ensures, c.level.ensures) (passes c.args.sheet.now.reader.now.config c.args.sheet.now.image.now c.args.sheet.now.certificate.now c.loop-a.a _ (omega (arith, c.loop-a-test.false)) (ap (λ (m : Mark). m.byte) c.mark.ensures) ∙ sym c.loop-a.invariant)
