-- `state::Core::flagged` meets its contract. Assumes nothing.
use mathlib.Core.Path.{◌≡◌}
use mathlib.Core.Bool.{true, false}
use lib.Dec.{eqb}
use Rattle.laws.specs.Choice.{pick}
use borrow.Author.Tests.{eq-eqb, ne_eqb}
use Rattle.state.proofs.Core.flagged.Goals as goal

pub returns-then-bit26-eq0 : goal.returns-then-bit26-eq0
unfolding pick
returns-then-bit26-eq0 c = let updates : eqb c.args.bit26 0 ≡ true = eq-eqb _ _ c.if-bit26-eq0.true in simp updates

pub returns : goal.returns
unfolding pick
returns c = let keeps : eqb c.args.bit26 0 ≡ false = ne_eqb _ _ c.if-bit26-eq0.false in simp keeps
