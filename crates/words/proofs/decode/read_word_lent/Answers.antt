-- `words::decode::read_word_lent` meets its contract. Assumes nothing.
use mathlib.Core.Path.{◌∙◌}
use Rattle.std.proofs.lemmas.Result.{err_from_is_err_and}
use Rattle.words.proofs.Answers.{by_tables, by_no_row, read_refused, read_passed}
use Rattle.words.proofs.decode.read_word_lent.Goals as goal

pub returns-then-n-ge-ROW_COUNT : goal.returns-then-n-ge-ROW_COUNT
returns-then-n-ge-ROW_COUNT c = by_no_row _ _ _ _ _ _ c.row_lent-n.ensures c.if-n-ge-ROW_COUNT.true

pub returns-in_err-judge : goal.returns-in_err-judge
returns-in_err-judge c =
    let p = err_from_is_err_and c.from_residual.result c.from_residual.ensures.1 in
    rw (p.1, p.2) (read_refused _ _ _ c.in_err-judge.ensures ∙ by_tables _ _ _ _ _ _ c.row_lent-n.ensures _ _ _ _ c.if-n-ge-ROW_COUNT.false c.at_or-p.ensures c.parts_lent-i.ensures (rw c.digit.ensures at c.available_in-there.ensures) c.parts_fit.ensures)

pub returns : goal.returns
returns c = read_passed _ _ _ c.in_ok-judge.ensures ∙ by_tables _ _ _ _ _ _ c.row_lent-n.ensures _ _ _ _ c.if-n-ge-ROW_COUNT.false c.at_or-p.ensures c.parts_lent-i.ensures (rw c.digit.ensures at c.available_in-there.ensures) c.parts_fit.ensures
