-- `text::forms::style_at` meets its contract. Assumes nothing.
use mathlib.Core.Path.{ap, sym}
use lib.ListN.{get_or, get_or-eq_default}
use Rattle.text.specs.Printed.{style_table}
use Rattle.text.proofs.forms.Laws.{styles_right}
use Rattle.text.proofs.forms.style_at.Goals as goal

pub returns-then-n-lt131 : goal.returns-then-n-lt131
returns-then-n-lt131 c = ap (λ l. get_or l c.args.n 0) styles_right

pub returns-else-n-lt131 : goal.returns-else-n-lt131
unfolding style_table
returns-else-n-lt131 c = sym (get_or-eq_default style_table 0 c.if-n-lt131.false)
