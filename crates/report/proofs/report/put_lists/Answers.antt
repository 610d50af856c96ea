-- `report::report::put_lists` meets its contract. Assumes nothing.
use Rattle.printing.proofs.Printers.{prints_then}
use Rattle.report.specs.Report.{lists_text}
use Rattle.report.proofs.report.put_lists.Goals as goal

pub returns : goal.returns
unfolding lists_text
returns c = rw (← c.word_digits-w.ensures, ← c.place_digits-d.ensures, ← c.first-stack.ensures, ← c.first-addresses.ensures, ← c.first-values.ensures) (prints_then c.put_cells.ensures (prints_then c.put_registers.ensures c.put_pairs.ensures))
