-- `assembler::forms::find` meets its contract. The loop's invariant: where a form claims the line, it is among those that are left. Assumes nothing.
use Rattle.assembler.proofs.Heads.{Left}
use Rattle.assembler.proofs.forms.find.Given as goal

abbrev pub invariant-loop-q : goal.invariant-loop-q
invariant-loop-q l = Left l.t l.at l.n l.q

abbrev pub decreases-loop-q : goal.decreases-loop-q
decreases-loop-q l = l.q
