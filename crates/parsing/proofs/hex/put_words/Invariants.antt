-- `parsing::hex::put_words`: the words of the lines before what is left are put; what is left falls.
use Rattle.std.proofs.Common.{length}
use Rattle.parsing.proofs.hex.Laws.{Passed}
use Rattle.parsing.proofs.hex.put_words.Given as goal

abbrev pub invariant-loop-rest : goal.invariant-loop-rest
invariant-loop-rest l = Passed l.text l.initial.words l.words l.count l.rest

abbrev pub decreases-loop-rest : goal.decreases-loop-rest
decreases-loop-rest l = length l.rest
