-- `report::report::put_outcome` meets its contract. Assumes nothing.
use Rattle.printing.proofs.Printers.{prints_then}
use Rattle.report.specs.Report.{outcome_text}
use Rattle.report.proofs.report.put_outcome.Goals as goal

pub returns : goal.returns
unfolding outcome_text
returns c = prints_then c.put_line.ensures (prints_then c.put_line-2.ensures (prints_then c.put_line-3.ensures c.put_line-4.ensures))
