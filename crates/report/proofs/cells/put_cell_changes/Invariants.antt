-- What is left to put, from here, puts the whole.
use lib.ListN.{drop}
use Rattle.report.proofs.Loops.{Leads, zipped}
use Rattle.report.proofs.Tables.{change}
use Rattle.report.proofs.cells.put_cell_changes.Given as goal

abbrev pub invariant-loop-i : goal.invariant-loop-i
invariant-loop-i l =
    let f = change l.mark l.d l.w in
    Leads l.initial.p (zipped f 0 l.old l.new) l.p (zipped f l.i (drop l.i l.old) (drop l.i l.new))
