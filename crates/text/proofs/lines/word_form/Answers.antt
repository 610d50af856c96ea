-- `text::lines::word_form` meets its contract. Assumes nothing.
use Rattle.text.proofs.texts.Laws.{refused_word, decoded_word}
use Rattle.text.proofs.lines.word_form.Goals as goal

pub returns-in-Ok : goal.returns-in-Ok
returns-in-Ok c = decoded_word _ c.args.w _ _ c.in-Ok.ensures (c.shown_form.ensures _)

pub returns-in-Err : goal.returns-in-Err
returns-in-Err c = refused_word _ c.args.w _ _ c.in-Err.ensures c.refused_form.ensures
