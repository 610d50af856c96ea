-- `guards::ranges::stack_fits` meets its contract. Assumes nothing.
use mathlib.Core.Path.{refl, sym, ◌∙◌}
use Rattle.guards.proofs.ranges.Laws.{below_short, stack_cut}
use Rattle.guards.proofs.ranges.stack_fits.Goals as goal

pub returns-then-stack-depth : goal.returns-then-stack-depth
returns-then-stack-depth c = c.within.ensures ∙ below_short _ _ c.args.stack.now c.if-stack-depth.true

pub returns-then-within : goal.returns-then-within
returns-then-within c = stack_cut c.args.most c.args.depth _ c.args.stack.now _ (sym c.if-within.true ∙ c.within-2.ensures) c.joined.ensures

pub returns-else-within : goal.returns-else-within
returns-else-within c = c.if-within.false ∙ stack_cut c.args.most c.args.depth _ c.args.stack.now _ (sym c.if-within.false ∙ c.within-2.ensures) refl
