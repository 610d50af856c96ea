-- `words::reader::Reader::facts` meets its contract. Assumes nothing.
use mathlib.Core.Path.{◌∙◌}
use Rattle.words.proofs.Packed.{facts_in_lem}
use Rattle.words.proofs.Statics.{packs}
use Rattle.words.proofs.reader.Reader.facts.Goals as goal

pub returns : goal.returns
returns c = c.facts_in.ensures ∙ facts_in_lem _ _ _ packs c.packed_lent.ensures
