-- `plans::plans::compute` meets its contract. Assumes nothing.
use Rattle.plans.specs.Values.{computed}
use Rattle.plans.proofs.plans.Laws.{within_alu}
use Rattle.std.proofs.Common.{◌∙◌}
use Rattle.plans.proofs.plans.compute.Goals as goal

pub returns : goal.returns
unfolding computed
returns c h = rw (c.to_register.ensures, c.flagged.ensures, c.next.ensures, c.alu_within-w.ensures h ∙ within_alu _ h)
