-- `image::loading::check_rest` meets its contract. Assumes nothing.
use Rattle.std.proofs.Common.{rules, Err, ◌≡◌, ◌≤◌, length, sym, ◌∙◌, arith, eq-eqb, ne_eqb, le-leb}
use borrow.Author.Tests.{lt-leb}
use Rattle.laws.specs.Choice.{pick}
use Rattle.laws.specs.First.{first_failing}
use Rattle.image.specs.Answers.{refusal_number, number_of}
use Rattle.image.proofs.Answers.{numbered}
use Rattle.image.specs.File.{blocks_for, file_size}
use Rattle.image.specs.Loading.{blocks_tests}
use Rattle.image.proofs.loading.Laws.{rest_is, zero_filling}
use Rattle.image.proofs.loading.check_rest.Goals as goal

pub returns-then-file-blocks : goal.returns-then-file-blocks
unfolding pick number_of refusal_number
returns-then-file-blocks c = rw (rest_is, ne_eqb (length c.args.file.now) (file_size c.args.n) (λ e. c.if-file-blocks.true (omega (arith, c.blocks_for-blocks.ensures))))

pub returns-then-len-n : goal.returns-then-len-n
unfolding pick number_of refusal_number
returns-then-len-n c = let l : length c.args.file.now ≡ file_size c.args.n = omega (arith, c.blocks_for-blocks.ensures) in rw (rest_is, eq-eqb _ _ l, lt-leb _ _ c.if-len-n.true)

pub returns-in_err-check_blocks : goal.returns-in_err-check_blocks
unfolding pick number_of
returns-in_err-check_blocks c =
    let l : length c.args.file.now ≡ file_size c.args.n = omega (arith, c.blocks_for-blocks.ensures) in
    let h : c.args.n ≤ c.args.len = omega arith in
    let r : c.from_residual.result ≡ Err c.in_err-check_blocks.field-0.0 = search rules in
    let b = rw c.blocks_for-blocks.ensures at c.in_err-check_blocks.ensures in
    rw r (rw (rest_is, eq-eqb _ _ l, le-leb _ _ h, ne_eqb (first_failing (blocks_tests c.args.file.now 1 (blocks_for c.args.n))) 0 (λ e. numbered _ (b ∙ e))) b)

pub returns-then-not-zero_words : goal.returns-then-not-zero_words
unfolding pick number_of refusal_number
returns-then-not-zero_words c = let l : length c.args.file.now ≡ file_size c.args.n = omega (arith, c.blocks_for-blocks.ensures) in let h : c.args.n ≤ c.args.len = omega arith in let b : first_failing (blocks_tests c.args.file.now 1 (blocks_for c.args.n)) ≡ 0 = sym (rw c.blocks_for-blocks.ensures at c.in_ok-check_blocks.ensures) in let z = zero_filling c.args.file.now c.args.n _ _ c.requires.0 c.blocks_for-blocks.ensures c.zero_words.ensures in rw (rest_is, eq-eqb _ _ l, le-leb _ _ h, b, sym z ∙ c.if-not-zero_words.true)

pub returns : goal.returns
unfolding pick number_of refusal_number
returns c = let l : length c.args.file.now ≡ file_size c.args.n = omega (arith, c.blocks_for-blocks.ensures) in let h : c.args.n ≤ c.args.len = omega arith in let b : first_failing (blocks_tests c.args.file.now 1 (blocks_for c.args.n)) ≡ 0 = sym (rw c.blocks_for-blocks.ensures at c.in_ok-check_blocks.ensures) in let z = zero_filling c.args.file.now c.args.n _ _ c.requires.0 c.blocks_for-blocks.ensures c.zero_words.ensures in rw (rest_is, eq-eqb _ _ l, le-leb _ _ h, b, sym z ∙ c.if-not-zero_words.false)
