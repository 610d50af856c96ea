-- `image::blocks::check_blocks` meets its contract. Assumes nothing.
use Rattle.std.proofs.Common.{rules, ◌≡◌, Err, sym, ◌∙◌, arith}
use Rattle.image.specs.Answers.{number_of}
use Rattle.image.proofs.Answers.{numbered}
use Rattle.image.proofs.blocks.Laws.{blocks_start, blocks_first, blocks_next, blocks_none}
use Rattle.image.proofs.blocks.check_blocks.Goals as goal

pub loop-b-init : goal.loop-b-init
loop-b-init c = blocks_start _ _ _

pub returns-in_err-check_block : goal.returns-in_err-check_block
unfolding number_of
returns-in_err-check_block c =
    let r : c.from_residual.result ≡ Err c.in_err-check_block.field-0.0 = search rules in
    let n = c.in_err-check_block.ensures in
    rw r (n ∙ blocks_first _ _ _ (omega arith) (λ e. numbered _ (n ∙ e)) ∙ c.loop-b.invariant)

pub loop-b-preserved : goal.loop-b-preserved
unfolding number_of
loop-b-preserved c = blocks_next _ _ _ _ (omega arith) (omega arith) (sym (c.in_ok-check_block.ensures)) ∙ c.loop-b.invariant

pub returns : goal.returns
unfolding number_of
returns c = blocks_none _ _ _ (omega arith) ∙ c.loop-b.invariant
