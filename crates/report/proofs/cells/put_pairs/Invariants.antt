-- What is left to put, from here, puts the whole.
use lib.ListN.{drop, length}
use Rattle.report.proofs.Loops.{Leads, zipped}
use Rattle.report.proofs.Tables.{pair}
use Rattle.report.proofs.cells.put_pairs.Given as goal

abbrev pub invariant-loop-a : goal.invariant-loop-a
invariant-loop-a l =
    let n = length l.yielded in
    let f = pair l.before l.w l.between l.after in
    Leads l.initial.p (zipped f 0 l.addresses l.values) l.p (zipped f n (drop n l.addresses) (drop n l.values))
