-- `text::texts::text` meets its contract. Assumes nothing.
use Rattle.std.proofs.lemmas.Result.{err_from_is_err_and}
use Rattle.text.proofs.texts.Laws.{refused_call, decoded_call}
use Rattle.text.proofs.texts.text.Goals as goal

pub returns-in_err-i : goal.returns-in_err-i
returns-in_err-i c =
    let p = err_from_is_err_and c.from_residual.result c.from_residual.ensures.1 in
    rw (p.1, p.2) (refused_call c.args.c c.args.w _ _ c.in_err-i.field-0.0 c.in_err-i.ensures.answer)

pub returns : goal.returns
returns c = decoded_call c.args.c c.args.w _ _ _ _ c.in_ok-i.ensures.answer (c.print_text.ensures _)
