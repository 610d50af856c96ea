-- `assembler::keys::Key::hash` meets its contract. Assumes nothing.
use borrow.Author.Rules.{rules}
use Rattle.assembler.specs.Chains.{hash_of}
use Rattle.assembler.proofs.keys.Key.hash.Goals as goal

pub returns-clause-value : goal.returns-clause-value
unfolding hash_of
returns-clause-value c = search rules
