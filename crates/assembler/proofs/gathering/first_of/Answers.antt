-- `assembler::gathering::first_of` meets its contract. Assumes nothing.
use Rattle.assembler.proofs.gathering.Laws.{first_again, first_before}
use Rattle.assembler.proofs.gathering.first_of.Goals as goal

pub returns-then-again : goal.returns-then-again
returns-then-again c = first_again _ _ _ _ c.if-again.true c.or.ensures

pub returns-else-again : goal.returns-else-again
returns-else-again c = first_before c.args.twice _ c.args.line c.if-again.false
