-- `assembler::openings::open_line` meets its contract. Assumes nothing.
use Rattle.assembler.proofs.openings.Laws.{opens}
use Rattle.assembler.proofs.openings.open_line.Goals as goal

pub returns : goal.returns
returns c = opens _ _ _ c.letters-letters.ensures c.key_before_colon.ensures
