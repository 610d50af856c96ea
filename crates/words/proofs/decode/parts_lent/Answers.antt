-- `words::decode::parts_lent` meets its contract. Assumes nothing.
use mathlib.Core.Path.{◌∙◌}
use Rattle.words.specs.Packed.{row_lent, parts_lent}
use Rattle.words.specs.Words.{fields_in}
use Rattle.words.proofs.decode.parts_lent.Goals as goal

pub returns : goal.returns
unfolding parts_lent row_lent fields_in
returns c = c.from.ensures c.args.c ∙ rw (c.fields_in.ensures, c.at_or-p.ensures, c.at_or-base.ensures)
