-- `assembler::forms::read` meets its contract. Assumes nothing.
use mathlib.Core.Path.{ap, ◌∙◌}
use Rattle.syntax.specs.Reading.{found}
use Rattle.assembler.proofs.forms.read.Goals as goal

pub returns : goal.returns
returns c = ap found c.read_by.ensures ∙ c.in_ok-q.ensures.reads
