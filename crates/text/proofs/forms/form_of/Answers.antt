-- `text::forms::form_of` meets its contract. Assumes nothing.
use mathlib.Core.Path.{ap, ◌∙◌}
use Rattle.text.specs.Packed.{style_text}
use Rattle.text.proofs.Printed.{packed_text}
use Rattle.text.proofs.forms.Laws.{style_named}
use Rattle.text.proofs.forms.form_of.Goals as goal

pub form_in-requires : goal.form_in-requires
form_in-requires c = style_named c.args.i.row _ c.style_at.ensures

pub returns : goal.returns
returns c = λ k. c.form_in.ensures ∙ ap (λ p. style_text p c.args.i) c.style_at.ensures ∙ packed_text k c.args.i
