-- `words::encode::write_word` meets its contract. Assumes nothing.
use mathlib.Core.Path.{◌∙◌, sym}
use borrow.Author.Tests.{not-true, not-false}
use Rattle.words.specs.Answers.{refusal_number, writing_of}
use Rattle.words.proofs.Answers.{writes, unlawful_write, lent_writes}
use Rattle.words.proofs.Statics.{bases, packs}
use Rattle.words.proofs.encode.write_word.Goals as goal

pub returns-then-not-lawful : goal.returns-then-not-lawful
unfolding writing_of refusal_number
returns-then-not-lawful c = writes _ _ _ (sym (unlawful_write _ _ (sym c.lawful.ensures ∙ not-true _ c.if-not-lawful.true-raw)))

pub returns : goal.returns
returns c = lent_writes _ _ _ _ _ _ _ (sym c.lawful.ensures ∙ not-false _ c.if-not-lawful.false-raw) bases packs c.option_table-options.ensures c.limit_table-limits.ensures c.write_word_lent.ensures
