-- What is left to put, from here, puts the whole.
use lib.ListN.{drop, length}
use Rattle.report.proofs.Loops.{Leads, zipped}
use Rattle.report.proofs.Tables.{value_change}
use Rattle.report.proofs.fields.put_value_changes.Given as goal

abbrev pub invariant-loop-x : goal.invariant-loop-x
invariant-loop-x l =
    let n = length l.yielded in
    Leads l.initial.p (zipped value_change 0 l.old l.new) l.p (zipped value_change n (drop n l.old) (drop n l.new))
