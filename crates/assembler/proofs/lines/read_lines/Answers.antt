-- `assembler::lines::read_lines` meets its contract. The loop's invariant: what is left of the lines, after what is read, is the whole. Assumes nothing.
use mathlib.Core.Path.{ap, ◌∙◌}
use native.Mathlib.Omega.{arith}
use Rattle.assembler.proofs.lines.Laws.{word_there, error_there, passing_first, bad_line, none_more, one_more_word, all_passed}
use Rattle.std.specs.Prelude.{Ok}
use Rattle.assembler.proofs.lines.read_lines.Goals as goal
use Rattle.assembler.proofs.lines.read_lines.Goals.{in-Some, in_default}

pub loop-s-init : goal.loop-s-init
loop-s-init c = passing_first _ _ _

pub returns-in_err-word : goal.returns-in_err-word
returns-in_err-word c = let m = error_there _ _ _ _ c.at_line.ensures c.in_err-word.was in
    bad_line _ _ _ _ _ _ _ c.loop-s.invariant _ c.line_end-e.ensures _ c.requires _ c.word_of_line.ensures _ _ _ _ m.1 m.2 c.from_residual.ensures.1

pub loop-s-preserved : goal.loop-s-preserved
loop-s-preserved c = let m = word_there _ _ _ _ c.at_line.ensures c.in_ok-word.was in
    elim c.match-word.branch [
      | in-Some w ↦ rw (w.words-is, w.count-is) (one_more_word _ _ _ _ _ _ _ c.loop-s.invariant _ c.line_end-e.ensures _ c.requires _ c.word_of_line.ensures _ _ (m ∙ ap Ok w.in-Some.is) w.keep_word.ensures)
      | in_default w ↦ rw (w.words-is, w.count-is) (none_more _ _ _ _ _ _ _ c.loop-s.invariant _ c.line_end-e.ensures _ c.requires _ c.word_of_line.ensures (m ∙ ap Ok w.in_default.is))
    ]

pub returns : goal.returns
returns c = all_passed _ _ _ _ _ _ _ c.loop-s.invariant (omega (arith, c.loop-s-test.false))
