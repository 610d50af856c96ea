-- `cells::decoding::decode` meets its contract. Assumes nothing.
use mathlib.Core.Path.{sym, ap, ◌∙◌}
use Rattle.words.specs.Answers.{reading_of}
use Rattle.cells.proofs.Filled.{read_cell, quick_cell, answered, refused_cell}
use Rattle.cells.proofs.decoding.decode.Goals as goal

pub returns-then-within_limits : goal.returns-then-within_limits
returns-then-within_limits c = quick_cell c.args.c c.args.w _ _ _ _ c.ranges.w.fits c.row_of_word.ensures c.of_row-t.ensures (rw c.check.ensures at c.within_limits.ensures) c.if-within_limits.true c.cell.ensures

pub returns-in-Err : goal.returns-in-Err
returns-in-Err c h = refused_cell c.args.c c.args.w _ _ c.in-Err.x (ap reading_of (sym c.in-Err.is) ∙ answered _ _ _ h c.read_word.ensures.answer) c.number.ensures c.leaving.ensures

pub returns-in-Ok : goal.returns-in-Ok
unfolding reading_of
returns-in-Ok c h = read_cell c.args.c c.args.w _ _ _ _ c.ranges.w.fits c.row_of_word.ensures c.of_row-t.ensures c.cell-in-Ok.ensures h (sym (ap reading_of (sym c.in-Ok.is) ∙ answered _ _ _ h c.read_word.ensures.answer))
