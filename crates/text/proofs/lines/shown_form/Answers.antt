-- `text::lines::shown_form` meets its contract. Assumes nothing.
use mathlib.Core.Path.{sym, ◌∙◌}
use Rattle.text.specs.Packed.{form_text}
use Rattle.text.proofs.texts.Laws.{too_long_shown, shown_whole}
use Rattle.text.proofs.lines.shown_form.Goals as goal

pub returns-then-too_long : goal.returns-then-too_long
returns-then-too_long c = λ k. too_long_shown (form_text c.form_of-f.result) _ _ _ (c.form_of-f.ensures k) c.len.ensures.0 (sym c.too_long.ensures ∙ c.if-too_long.true) c.long_form.ensures

pub returns-else-too_long : goal.returns-else-too_long
returns-else-too_long c = λ k. shown_whole (form_text c.form_of-f.result) _ _ (c.form_of-f.ensures k) c.len.ensures.0 (sym c.too_long.ensures ∙ c.if-too_long.false)
