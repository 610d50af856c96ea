-- `yam_c::yam_write` meets its contract. Assumes nothing.
use mathlib.Core.Path.{◌∙◌}
use Rattle.yam_c.proofs.yam_write.Goals as goal

pub returns : goal.returns
returns c = c.write_into.ensures ∙ rw (c.write_word-w.ensures.answer, c.instruction_from.ensures, c.config_from.ensures)
