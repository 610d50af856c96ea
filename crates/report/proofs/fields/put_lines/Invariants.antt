-- What is left to put, from here, puts the whole.
use lib.ListN.{drop}
use Rattle.report.proofs.Loops.{Leads, listed}
use Rattle.report.proofs.Tables.{value_line}
use Rattle.report.proofs.fields.put_lines.Given as goal

abbrev pub invariant-loop-f : goal.invariant-loop-f
invariant-loop-f l = Leads l.initial.p (listed value_line 0 l.values) l.p (listed value_line l.f-index (drop l.f-index l.values))
