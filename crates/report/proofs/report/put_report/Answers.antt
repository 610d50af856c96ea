-- `report::report::put_report` meets its contract. Assumes nothing.
use Rattle.printing.proofs.Printers.{prints_then, prints_as}
use Rattle.report.specs.Fields.{pointers, masks, counts}
use Rattle.report.specs.Report.{report_of}
use Rattle.report.proofs.Tables.{lines_of_three}
use Rattle.report.proofs.report.put_report.Goals as goal

pub returns : goal.returns
unfolding report_of
returns c = prints_then c.put_outcome.ensures (prints_as (lines_of_three pointers (masks c.args.c) (counts c.args.c) c.args.left.now.core _) (prints_then c.put_fields.ensures c.put_lists.ensures))
