-- `assembler::lines::word_of_line` meets its contract. Assumes nothing.
use Rattle.std.proofs.Common.{ap, not}
use mathlib.Core.Path.{refl, sym}
use Rattle.assembler.specs.Writing.{outcome_of}
use Rattle.assembler.proofs.lines.Laws.{gives_none, gives_word, gives_error}
use Rattle.assembler.proofs.lines.word_of_line.Goals as goal

pub returns-then-not-counts : goal.returns-then-not-counts
returns-then-not-counts c = gives_none _ _ _ _ _ c.requires.0 c.requires.1 _ c.counts.ensures (ap not c.if-not-counts.true)

pub returns-in_err-word : goal.returns-in_err-word
returns-in_err-word c = gives_error _ _ _ _ _ c.requires.0 c.requires.1 _ _ _ _ _ c.counts.ensures (ap not c.if-not-counts.false) c.body_start.ensures.0 c.word_at.ensures
    c.in_err-word.was c.from_residual.ensures.1

pub returns : goal.returns
returns c = gives_word _ _ _ _ _ c.requires.0 c.requires.1 _ _ _ _ c.counts.ensures (ap not c.if-not-counts.false) c.body_start.ensures.0 c.word_at.ensures
    refl (ap outcome_of (sym c.in_ok-word.was))
