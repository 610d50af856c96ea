-- `words::decode::read_word` meets its contract. Assumes nothing.
use mathlib.Core.Path.{◌∙◌, sym}
use borrow.Author.Tests.{not-true, not-false}
use Rattle.words.specs.Answers.{refusal_number, reading_of}
use Rattle.words.proofs.Answers.{reads, lawful_read, unlawful_read}
use Rattle.words.proofs.decode.read_word.Goals as goal

pub returns-then-not-lawful : goal.returns-then-not-lawful
unfolding reading_of refusal_number
returns-then-not-lawful c = reads _ _ _ (sym (unlawful_read _ _ (sym c.lawful.ensures ∙ not-true _ c.if-not-lawful.true-raw)))

pub returns : goal.returns
returns c = reads _ _ _ (c.read_lawful.ensures ∙ lawful_read _ _ (sym c.lawful.ensures ∙ not-false _ c.if-not-lawful.false-raw))
