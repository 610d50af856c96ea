-- `report::cells::put_pair` meets its contract. Assumes nothing.
use Rattle.printing.proofs.Printers.{prints_then}
use Rattle.report.proofs.cells.put_pair.Goals as goal

pub returns : goal.returns
returns c = prints_then c.bytes.ensures (prints_then c.hex.ensures (prints_then c.bytes-2.ensures (prints_then c.hex-2.ensures c.bytes-3.ensures)))
