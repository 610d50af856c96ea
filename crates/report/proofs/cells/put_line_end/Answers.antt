-- `report::cells::put_line_end` meets its contract. Assumes nothing.
use Rattle.report.proofs.Texts.{no_end, has_end}
use Rattle.report.proofs.cells.put_line_end.Goals as goal

pub returns-then-i : goal.returns-then-i
returns-then-i c = has_end c.args.i c.if-i.true c.bytes.ensures

pub returns-else-i : goal.returns-else-i
returns-else-i c = no_end _ c.args.i c.if-i.false
