-- `image::blocks::check_block` meets its contract. Assumes nothing.
use Rattle.std.proofs.Common.{sym, ◌∙◌}
use Rattle.image.specs.Answers.{refusal_number, number_of}
use Rattle.image.proofs.blocks.Laws.{block_number, block_sum, block_right}
use Rattle.image.proofs.blocks.check_block.Goals as goal

pub returns-then-word-b : goal.returns-then-word-b
unfolding number_of refusal_number
returns-then-word-b c = block_number _ _ (λ e. c.if-word-b.true (c.word.ensures ∙ e))

pub returns-then-word-checksum_at : goal.returns-then-word-checksum_at
unfolding number_of refusal_number
returns-then-word-checksum_at c = block_sum _ _ (sym c.word.ensures ∙ c.if-word-b.false) (λ e. c.if-word-checksum_at.true (c.word-2.ensures ∙ e ∙ sym c.checksum_at.ensures))

pub returns : goal.returns
unfolding number_of
returns c = block_right _ _ (sym c.word.ensures ∙ c.if-word-b.false) (sym c.word-2.ensures ∙ c.if-word-checksum_at.false ∙ c.checksum_at.ensures)
