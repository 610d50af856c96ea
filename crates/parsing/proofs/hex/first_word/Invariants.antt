-- `parsing::hex::first_word`: so many digits were read, and they say the word.
use Rattle.parsing.proofs.hex.Laws.{Begun}
use Rattle.parsing.proofs.hex.first_word.Given as goal

abbrev pub invariant-loop-i : goal.invariant-loop-i
invariant-loop-i l = Begun l.text l.i l.word
