-- `parsing::naming::put_values` meets its contract. Assumes nothing.
use Rattle.parsing.proofs.naming.Laws.{Gathering}
use Rattle.parsing.proofs.naming.put_values.Given as goal

abbrev pub invariant-loop-entry : goal.invariant-loop-entry
invariant-loop-entry l = Gathering l.text l.initial.values l.values l.count l.entry-iterator.done l.entry-iterator.rest.now
