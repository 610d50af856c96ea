-- `report::trace::put_changed_cells` meets its contract. Assumes nothing.
use Rattle.printing.proofs.Printers.{prints_then}
use Rattle.report.specs.Trace.{changed_cells}
use Rattle.report.proofs.trace.put_changed_cells.Goals as goal

pub returns : goal.returns
unfolding changed_cells
returns c = rw (← c.word_digits-w.ensures, ← c.place_digits.ensures, ← c.filled_from-pushed.ensures) (prints_then c.put_cells.ensures (prints_then c.put_cell_changes.ensures c.put_cell_changes-2.ensures))
