-- What is left to put, from here, puts the whole.
use lib.ListN.{drop}
use Rattle.report.specs.Cells.{register_text}
use Rattle.report.proofs.Loops.{Leads, listed}
use Rattle.report.proofs.cells.put_registers.Given as goal

abbrev pub invariant-loop-i : goal.invariant-loop-i
invariant-loop-i l =
    let f = register_text l.d l.w in
    Leads l.initial.p (listed f 0 l.cells) l.p (listed f l.i (drop l.i l.cells))
