-- `image::loading::load_head` meets its contract. Assumes nothing.
use Rattle.std.proofs.Common.{rules, ◌≡◌, Err, sym, ◌∙◌, arith, ne_eqb}
use Rattle.laws.specs.Choice.{pick}
use Rattle.laws.specs.First.{first_failing}
use Rattle.image.specs.Answers.{refusal_number, number_of}
use Rattle.image.specs.Loading.{block_tests}
use Rattle.image.proofs.Answers.{numbered}
use Rattle.image.proofs.loading.Laws.{head_is, head_length}
use Rattle.image.proofs.loading.load_head.Goals as goal

pub returns-then-not-file-clause-number : goal.returns-then-not-file-clause-number
unfolding pick number_of refusal_number
returns-then-not-file-clause-number c = rw (head_is, c.if-not-file.true)

pub check_block-requires : goal.check_block-requires
check_block-requires c = let h = head_length c.args.file.now (c.if-not-file.false) in omega arith

pub returns-in_err-check_block-clause-number : goal.returns-in_err-check_block-clause-number
unfolding pick number_of
returns-in_err-check_block-clause-number c =
    let l = c.if-not-file.false in
    let r : c.from_residual.result ≡ Err c.in_err-check_block.field-0.0 = search rules in
    let b = c.in_err-check_block.ensures in
    rw r (rw (head_is, l, ne_eqb (first_failing (block_tests c.args.file.now 0)) 0 (λ e. numbered _ (b ∙ e))) b)

pub zero_words-requires : goal.zero_words-requires
zero_words-requires c = let h = head_length c.args.file.now (c.if-not-file.false) in omega arith

pub returns-then-not-zero_words-clause-number : goal.returns-then-not-zero_words-clause-number
unfolding pick number_of refusal_number
returns-then-not-zero_words-clause-number c = let l = c.if-not-file.false in let b : first_failing (block_tests c.args.file.now 0) ≡ 0 = sym c.in_ok-check_block.ensures in rw (head_is, l, b, sym c.zero_words.ensures ∙ c.if-not-zero_words.true)

pub config_of-c-requires : goal.config_of-c-requires
config_of-c-requires c = let h = head_length c.args.file.now (c.if-not-file.false) in omega arith

pub returns-then-not-lawful-clause-number : goal.returns-then-not-lawful-clause-number
unfolding pick number_of refusal_number
returns-then-not-lawful-clause-number c = let l = c.if-not-file.false in let b : first_failing (block_tests c.args.file.now 0) ≡ 0 = sym c.in_ok-check_block.ensures in let z = sym c.zero_words.ensures ∙ c.if-not-zero_words.false in rw (head_is, l, b, z, sym (rw c.config_of-c.ensures at c.lawful.ensures) ∙ c.if-not-lawful.true)

pub returns-clause-number : goal.returns-clause-number
unfolding pick number_of
returns-clause-number c = let l = c.if-not-file.false in let b : first_failing (block_tests c.args.file.now 0) ≡ 0 = sym c.in_ok-check_block.ensures in let z = sym c.zero_words.ensures ∙ c.if-not-zero_words.false in rw (head_is, l, b, z, sym (rw c.config_of-c.ensures at c.lawful.ensures) ∙ c.if-not-lawful.false)
