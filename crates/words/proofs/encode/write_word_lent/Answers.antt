-- `words::encode::write_word_lent` meets its contract. Assumes nothing.
use mathlib.Core.Path.{◌∙◌, refl}
use Rattle.std.proofs.lemmas.Result.{err_from_is_err_and}
use Rattle.words.proofs.Answers.{by_row, write_refused, write_passed}
use Rattle.words.proofs.encode.write_word_lent.Goals as goal

pub returns-in_err-allow : goal.returns-in_err-allow
returns-in_err-allow c =
    let p = err_from_is_err_and c.from_residual.result c.from_residual.ensures.1 in
    rw (p.1, p.2) (write_refused _ _ _ c.in_err-allow.ensures ∙ by_row _ _ _ _ _ _ _ _ _ refl refl refl)

pub returns : goal.returns
returns c = write_passed _ _ _ c.in_ok-allow.ensures ∙ by_row _ _ _ _ _ _ _ _ _ c.at_or.ensures (c.from.ensures c.args.c) c.word_from.ensures
