-- `report::cells::put_name` meets its contract. Assumes nothing.
use Rattle.printing.proofs.Printers.{prints_then}
use Rattle.report.proofs.Texts.{no_name, has_name}
use Rattle.report.proofs.cells.put_name.Goals as goal

pub returns-then-i-eq0 : goal.returns-then-i-eq0
returns-then-i-eq0 c = has_name c.args.d c.args.i c.if-i-eq0.true (prints_then c.bytes.ensures c.hex.ensures)

pub returns-else-i-eq0 : goal.returns-else-i-eq0
returns-else-i-eq0 c = no_name _ c.args.d c.args.i c.if-i-eq0.false
