-- `certificate::searching::check_answer` meets its contract. Assumes nothing.
use mathlib.Core.Path.{◌≡◌, ap, ◌∙◌}
use Rattle.std.specs.Prelude.{is_some}
use Rattle.certificate.specs.Answers.{answer_of}
use Rattle.certificate.proofs.searching.Laws.{unlawful, unsized, searched, long_both, short_left, short_right}
use Rattle.certificate.proofs.searching.check_answer.Goals.{then-image-size-via-then-image-size, then-image-size-via-else-image-size+then-certificate-size}
use Rattle.certificate.proofs.searching.check_answer.Goals as goal

pub returns-in_default : goal.returns-in_default
unfolding answer_of
returns-in_default c = unlawful c.args.c c.args.image.now c.args.certificate.now (c.of.ensures.none.0 (ap is_some c.in_default.is))

pub returns-then-image-size : goal.returns-then-image-size
unfolding answer_of
returns-then-image-size c =
    let e : c.in-Some.reader.config ≡ c.args.c = c.in-Some.ensures.some in
    elim c.then-image-size.branch [
      | then-image-size-via-then-image-size w ↦ unsized c.args.c c.args.image.now c.args.certificate.now (rw e at c.in-Some.reader.is_lawful) (short_left _ _ _ w.if-image-size.true)
      | then-image-size-via-else-image-size+then-certificate-size w ↦ unsized c.args.c c.args.image.now c.args.certificate.now (rw e at c.in-Some.reader.is_lawful) (short_right _ _ _ w.if-certificate-size.true)
    ]

pub returns : goal.returns
returns c =
    let e : c.in-Some.reader.config ≡ c.args.c = c.in-Some.ensures.some in
    (rw e at c.first_broken.ensures) ∙ searched c.args.c c.args.image.now c.args.certificate.now (rw e at c.in-Some.reader.is_lawful) (long_both _ _ _ c.if-image-size.false c.if-certificate-size.false)
