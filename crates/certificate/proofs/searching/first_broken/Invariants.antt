-- `certificate::searching::first_broken` meets its contract. Assumes nothing.
use mathlib.Core.Path.{◌≡◌}
use Rattle.rules.specs.Marks.{mark_at, level_of}
use Rattle.rules.specs.Check.{passed, lowest, first_broken}
use Rattle.certificate.proofs.searching.Laws.{left_at}
use Rattle.certificate.proofs.searching.first_broken.Given as goal

abbrev pub invariant-loop-a : goal.invariant-loop-a
invariant-loop-a l =
    first_broken (lowest l.sheet.reader.now.config l.sheet.image.now l.sheet.certificate.now) (passed (level_of (mark_at l.sheet.certificate.now 0))) l.sheet.reader.now.config.imsize 0 ≡
    left_at l.sheet.reader.now.config l.sheet.image.now l.sheet.certificate.now l.a
