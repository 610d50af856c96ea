-- `text::forms::shown_part` meets its contract. Assumes nothing.
use Rattle.std.proofs.Common.{rules}
use Rattle.text.specs.Packed.{shown_part}
use Rattle.text.proofs.forms.Laws.{shown_none}
use Rattle.text.proofs.forms.shown_part.Goals as goal

pub returns-in-1 : goal.returns-in-1
unfolding shown_part
returns-in-1 c = rw c.in-1.is

pub returns-in-2 : goal.returns-in-2
unfolding shown_part
returns-in-2 c = rw c.in-2.is

pub returns-in-3 : goal.returns-in-3
unfolding shown_part
returns-in-3 c = rw c.in-3.is

pub returns-in-4 : goal.returns-in-4
unfolding shown_part
returns-in-4 c = rw c.in-4.is

pub returns-in_default : goal.returns-in_default
returns-in_default c = search (rules, shown_none)
