-- `assembler::bytes::is_beyond` meets its contract. Assumes nothing.
use borrow.Author.Rules.{rules}
use Rattle.assembler.specs.Bytes.{is_beyond}
use Rattle.assembler.proofs.bytes.is_beyond.Goals as goal

pub returns : goal.returns
unfolding is_beyond
returns c = search rules
