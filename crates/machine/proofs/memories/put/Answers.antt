-- `machine::memories::put` meets its contract. Assumes nothing.
use borrow.Author.Rules.{rules}
use Rattle.state.specs.Step.{put_of}
use Rattle.machine.proofs.memories.put.Goals as goal

pub returns-in-Some : goal.returns-in-Some
unfolding put_of
returns-in-Some c = search rules

pub returns-in_default : goal.returns-in_default
unfolding put_of
returns-in_default c = search rules
