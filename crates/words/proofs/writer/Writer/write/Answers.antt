-- `words::writer::Writer::write` meets its contract. Assumes nothing.
use mathlib.Core.Path.{◌∙◌}
use Rattle.words.proofs.Answers.{write_lent_lem}
use Rattle.words.proofs.Statics.{bases, packs, lawful_here}
use Rattle.words.proofs.writer.Writer.write.Goals as goal

pub returns : goal.returns
returns c = c.write_word_lent.ensures ∙ write_lent_lem _ _ _ _ _ _ bases packs c.args.self.now.options_right c.args.self.now.limits_right (lawful_here _ c.args.self.now.is_lawful)
