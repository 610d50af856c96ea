-- `words::rows::mask_row` meets its contract. Assumes nothing.
use Rattle.words.proofs.rows.mask_row.Goals as goal

pub returns : goal.returns
returns c = cc
