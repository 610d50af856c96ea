-- `words::decode::row_of_word` meets its contract. Assumes nothing.
use mathlib.Core.Path.{◌∙◌}
use Rattle.words.proofs.Packed.{number_lent_lem}
use Rattle.words.proofs.Statics.{classes}
use Rattle.words.proofs.decode.row_of_word.Goals as goal

pub returns : goal.returns
returns c = (rw classes at c.row_lent.ensures) ∙ number_lent_lem c.args.w c.ranges.w.fits
