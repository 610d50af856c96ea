-- `yam_c::yam_check` meets its contract. Assumes nothing.
use Rattle.yam_c.proofs.Demand.{demand_3_lists}
use mathlib.Core.Path.{◌∙◌}
use Rattle.yam_c.proofs.yam_check.Goals as goal

pub returns : goal.returns
returns c = (c.check_into.ensures ∙ rw (c.check-r.ensures.answer, c.config_from.ensures), demand_3_lists)
