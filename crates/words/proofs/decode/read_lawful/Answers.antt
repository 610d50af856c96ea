-- `words::decode::read_lawful` meets its contract. Assumes nothing.
use mathlib.Core.Path.{◌∙◌, sym}
use Rattle.std.proofs.lemmas.Result.{err_from_is_err_and}
use Rattle.words.proofs.Answers.{by_one, by_no_one, read_refused, read_passed}
use Rattle.words.proofs.Packed.{number_lent_lem}
use Rattle.words.proofs.Quick.{own_parts}
use Rattle.words.proofs.Statics.{bases, packs}
use Rattle.words.proofs.decode.read_lawful.Goals as goal

pub returns-then-n-ge-ROW_COUNT : goal.returns-then-n-ge-ROW_COUNT
returns-then-n-ge-ROW_COUNT c = by_no_one _ _ _ c.row_of_word-n.ensures c.if-n-ge-ROW_COUNT.true

pub returns-in_err-judge : goal.returns-in_err-judge
returns-in_err-judge c =
    let p = err_from_is_err_and c.from_residual.result c.from_residual.ensures.1 in
    rw (p.1, p.2) (read_refused _ _ _ c.in_err-judge.ensures ∙ by_one _ _ _ c.row_of_word-n.ensures _ _ _ _ _ packs c.if-n-ge-ROW_COUNT.false c.at_or-p.ensures (own_parts _ _ _ _ c.ranges.w.fits (c.row_of_word-n.ensures ∙ sym (number_lent_lem _ c.ranges.w.fits)) (rw (bases, packs) at c.parts_lent-instruction.ensures)) (rw c.digit.ensures at c.available_in-there.ensures) (rw c.limit_table.ensures at c.fits_lent.ensures))

pub returns : goal.returns
returns c = read_passed _ _ _ c.in_ok-judge.ensures ∙ by_one _ _ _ c.row_of_word-n.ensures _ _ _ _ _ packs c.if-n-ge-ROW_COUNT.false c.at_or-p.ensures (own_parts _ _ _ _ c.ranges.w.fits (c.row_of_word-n.ensures ∙ sym (number_lent_lem _ c.ranges.w.fits)) (rw (bases, packs) at c.parts_lent-instruction.ensures)) (rw c.digit.ensures at c.available_in-there.ensures) (rw c.limit_table.ensures at c.fits_lent.ensures)
