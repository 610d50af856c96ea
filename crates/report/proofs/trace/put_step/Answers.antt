-- `report::trace::put_step` meets its contract. Assumes nothing.
use Rattle.printing.proofs.Printers.{prints_then}
use Rattle.report.specs.Trace.{step_text}
use Rattle.report.proofs.trace.put_step.Goals as goal

pub returns : goal.returns
unfolding step_text
returns c = prints_then c.decimal.ensures (prints_then c.bytes.ensures (prints_then c.decimal-2.ensures (prints_then c.bytes-2.ensures (prints_then c.entry.ensures c.bytes-3.ensures))))
