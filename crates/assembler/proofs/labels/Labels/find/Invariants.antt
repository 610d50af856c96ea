-- `assembler::labels::Labels::find` meets its contract. Assumes nothing.
use Rattle.assembler.proofs.labels.Laws.{Sought}
use Rattle.assembler.specs.Entries.{keys_of}
use Rattle.assembler.proofs.labels.Labels.find.Given as goal

abbrev pub invariant-loop-k : goal.invariant-loop-k
invariant-loop-k l = Sought (keys_of l.self.entries) l.self.count l.key.number l.k

abbrev pub decreases-loop-k : goal.decreases-loop-k
decreases-loop-k l = l.k
