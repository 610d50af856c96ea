-- `assembler::openings::counts` meets its contract. Assumes nothing.
use Rattle.assembler.proofs.openings.Laws.{counts_is}
use Rattle.assembler.proofs.openings.counts.Goals as goal

pub returns : goal.returns
returns c = counts_is _ c.args.o _ c.requires c.is_none.ensures
