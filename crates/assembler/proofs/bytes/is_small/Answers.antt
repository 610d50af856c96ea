-- `assembler::bytes::is_small` meets its contract. Assumes nothing.
use borrow.Author.Rules.{rules}
use Rattle.syntax.specs.Lines.{is_small}
use Rattle.assembler.proofs.bytes.is_small.Goals as goal

-- src/bytes.rt:40:1
pub returns : goal.returns
unfolding is_small
returns c = search rules
