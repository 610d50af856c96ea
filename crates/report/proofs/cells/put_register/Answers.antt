-- `report::cells::put_register` meets its contract. Assumes nothing.
use Rattle.printing.proofs.Printers.{prints_then}
use Rattle.report.specs.Cells.{register_text}
use Rattle.report.proofs.cells.put_register.Goals as goal

pub returns : goal.returns
unfolding register_text
returns c = prints_then c.put_name.ensures (prints_then c.bytes.ensures (prints_then c.hex.ensures c.put_line_end.ensures))
