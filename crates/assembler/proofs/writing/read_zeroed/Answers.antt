-- `assembler::writing::read_zeroed` meets its contract. Assumes nothing.
use mathlib.Core.Path.{ap, ◌∙◌}
use native.Mathlib.Nat.{zero-add}
use Rattle.syntax.specs.Reading.{read_line}
use Rattle.assembler.proofs.writing.Laws.{zeroed_long}
use Rattle.assembler.proofs.writing.read_zeroed.Goals as goal

pub returns-then-n-gt-LONGEST : goal.returns-then-n-gt-LONGEST
returns-then-n-gt-LONGEST c = zeroed_long c.args.line.now c.args.from c.args.m c.requires c.if-n-gt-LONGEST.true

pub returns : goal.returns
returns c = rw zero-add at c.read.ensures ∙ ap read_line c.zeroed.ensures
