-- `words::Refusal::number` meets its contract. Assumes nothing.
use Rattle.std.proofs.Common.{rules}
use Rattle.words.specs.Answers.{refusal_number}
use Rattle.words.proofs.Refusal.number.Goals as goal

pub returns : goal.returns
unfolding refusal_number
returns c = search rules

pub returns-2 : goal.returns-2
unfolding refusal_number
returns-2 c = search rules

pub returns-3 : goal.returns-3
unfolding refusal_number
returns-3 c = search rules

pub returns-4 : goal.returns-4
unfolding refusal_number
returns-4 c = search rules
