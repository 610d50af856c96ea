-- `report::trace::put_trace` meets its contract. Assumes nothing.
use Rattle.printing.proofs.Printers.{prints_then, prints_as}
use Rattle.report.specs.Fields.{pointers, masks, counts}
use Rattle.report.specs.Trace.{trace_line}
use Rattle.report.proofs.Tables.{changes_of_three}
use Rattle.report.proofs.trace.put_trace.Goals as goal

pub returns : goal.returns
unfolding trace_line
returns c = prints_then c.put_step.ensures (prints_as (changes_of_three pointers (masks c.args.c) (counts c.args.c) c.args.old.now.core c.args.new.now.core _) (prints_then c.put_changes.ensures (prints_then c.put_changed_cells.ensures (prints_then c.put_changed_log.ensures c.bytes.ensures))))
