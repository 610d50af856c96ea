-- `text::texts::print_text` meets its contract. Assumes nothing.
use mathlib.Core.Path.{sym, ◌∙◌}
use Rattle.text.specs.Packed.{form_text}
use Rattle.text.proofs.texts.Laws.{text_no_room, text_long, text_printed}
use Rattle.text.proofs.texts.print_text.Goals as goal

pub returns-then-not-has_room : goal.returns-then-not-has_room
returns-then-not-has_room c = λ k.
    text_no_room _ _ (form_text c.form_of-f.result) _ _ (c.form_of-f.ensures k) c.len-n.ensures.0 (sym c.has_room.ensures ∙ c.if-not-has_room.true)

pub returns-then-too_long : goal.returns-then-too_long
returns-then-too_long c = λ k.
    text_long _ _ (form_text c.form_of-f.result) _ _ (c.form_of-f.ensures k) c.len-n.ensures.0 (sym c.has_room.ensures ∙ c.if-not-has_room.false)
    (sym c.too_long.ensures ∙ c.if-too_long.true)

pub returns : goal.returns
returns c = λ k.
    text_printed _ _ (form_text c.form_of-f.result) _ _ (c.form_of-f.ensures k) c.len-n.ensures.0 (sym c.has_room.ensures ∙ c.if-not-has_room.false)
    (sym c.too_long.ensures ∙ c.if-too_long.false) c.put.ensures
