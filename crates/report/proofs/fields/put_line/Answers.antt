-- `report::fields::put_line` meets its contract. Assumes nothing.
use Rattle.printing.proofs.Printers.{prints_then}
use Rattle.report.specs.Fields.{line_text}
use Rattle.report.proofs.fields.put_line.Goals as goal

pub returns : goal.returns
unfolding line_text
returns c = prints_then c.bytes.ensures (prints_then c.bytes-2.ensures (prints_then c.put_value.ensures c.bytes-3.ensures))
