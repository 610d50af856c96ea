-- `machine::advance::cell_at` meets its contract. Assumes nothing.
use Rattle.laws.specs.Choice.{pick}
use borrow.Author.Tests.{eq-eqb, ne_eqb}
use Rattle.machine.specs.Cached.{cell_at}
use Rattle.machine.proofs.advance.cell_at.Goals as goal

pub returns-then-cells-i : goal.returns-then-cells-i
unfolding cell_at pick
returns-then-cells-i c = rw (eq-eqb _ _ c.if-cells-i.true)

pub returns-else-cells-i : goal.returns-else-cells-i
unfolding cell_at pick
returns-else-cells-i c = rw (ne_eqb _ _ c.if-cells-i.false)
