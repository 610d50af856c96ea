-- `yam_c::yam_read` meets its contract. Assumes nothing.
use Rattle.yam_c.proofs.Back.{instruction_back}
use mathlib.Core.Path.{◌∙◌}
use Rattle.yam_c.proofs.yam_read.Goals as goal

pub returns : goal.returns
returns c = (c.read_into.ensures ∙ rw (c.read_word-r.ensures.answer, c.config_from.ensures), instruction_back)
