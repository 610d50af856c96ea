-- `image::storing::put_file` meets its contract. Assumes nothing.
use Rattle.image.proofs.storing.Laws.{file_put}
use Rattle.image.proofs.storing.put_file.Goals as goal

pub returns : goal.returns
returns c = file_put _ _ _ _ _ _ c.requires.0 c.requires.2 (rw c.head_words-head.ensures at c.put_block.ensures) (rw c.blocks_for.ensures at c.put_image.ensures)
