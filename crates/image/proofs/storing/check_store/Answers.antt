-- `image::storing::check_store` meets its contract. Assumes nothing.
use Rattle.std.proofs.Common.{◌≡◌, sym, ◌∙◌, arith, eq-eqb, ne_eqb}
use Rattle.laws.specs.Choice.{pick}
use Rattle.image.specs.Answers.{refusal_number, number_of}
use Rattle.image.specs.File.{file_size}
use Rattle.image.specs.Storing.{store_tests}
use Rattle.image.proofs.Lawful.{size_of}
use Rattle.image.proofs.storing.check_store.Goals as goal

pub returns-then-not-lawful : goal.returns-then-not-lawful
unfolding store_tests pick number_of refusal_number
returns-then-not-lawful c = rw (sym c.lawful.ensures ∙ c.if-not-lawful.true)

pub returns-then-words-size : goal.returns-then-words-size
unfolding store_tests pick number_of refusal_number
returns-then-words-size c = let l = sym c.lawful.ensures ∙ c.if-not-lawful.false in rw (l, ne_eqb _ _ c.if-words-size.true)

pub blocks_for-requires : goal.blocks_for-requires
blocks_for-requires c = let l = sym c.lawful.ensures ∙ c.if-not-lawful.false in let s = size_of c.args.c l in omega arith

pub returns-then-bytes-blocks_for : goal.returns-then-bytes-blocks_for
unfolding store_tests pick number_of refusal_number
returns-then-bytes-blocks_for c = let l = sym c.lawful.ensures ∙ c.if-not-lawful.false in let w : c.args.words ≡ c.args.c.imsize = omega arith in rw (l, eq-eqb _ _ w, ne_eqb c.args.bytes (file_size c.args.c.imsize) (λ e. c.if-bytes-blocks_for.true (omega (arith, c.blocks_for.ensures))))

pub returns : goal.returns
unfolding store_tests pick number_of refusal_number
returns c = let l = sym c.lawful.ensures ∙ c.if-not-lawful.false in let w : c.args.words ≡ c.args.c.imsize = omega arith in let f : c.args.bytes ≡ file_size c.args.c.imsize = omega (arith, c.blocks_for.ensures) in rw (l, eq-eqb _ _ w, eq-eqb _ _ f)
