-- What is left to put, from here, puts the whole.
use lib.ListN.{drop}
use Rattle.report.proofs.Loops.{Leads, listed}
use Rattle.report.proofs.Tables.{cell}
use Rattle.report.proofs.cells.put_cells.Given as goal

abbrev pub invariant-loop-x : goal.invariant-loop-x
invariant-loop-x l =
    let f = cell l.before l.w l.after in
    Leads l.initial.p (listed f 0 l.cells) l.p (listed f l.x-index (drop l.x-index l.cells))
