-- `image::storing::put_block` meets its contract. Assumes nothing.
use Rattle.image.proofs.storing.Laws.{block_put}
use Rattle.image.proofs.storing.put_block.Goals as goal

pub returns : goal.returns
returns c = block_put _ _ _ _ _ _ _ _ c.put_word.ensures c.put_words-sum.ensures.bytes c.put_words-sum.ensures.added c.put_word-2.ensures
