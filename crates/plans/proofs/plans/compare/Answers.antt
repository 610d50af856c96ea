-- `plans::plans::compare` meets its contract. Assumes nothing.
use Rattle.plans.specs.Values.{compared}
use Rattle.plans.proofs.plans.Laws.{within_alu}
use Rattle.std.proofs.Common.{◌∙◌}
use Rattle.plans.proofs.plans.compare.Goals as goal

pub returns : goal.returns
unfolding compared
returns c h = rw (c.moved.ensures, c.flagged.ensures, c.next.ensures, c.alu_within-w.ensures h ∙ within_alu _ h)
