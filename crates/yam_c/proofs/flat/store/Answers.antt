-- `yam_c::flat::store` meets its contract. Assumes nothing.
use mathlib.Core.Path.{refl, sym, ap, ◌∙◌}
use native.Mathlib.Omega.{arith}
use lib.ListN.{length, length-set}
use Rattle.yam_c.proofs.Storing.{stored_first, stored_next, stored_done}
use Rattle.yam_c.proofs.flat.store.Goals as goal

pub loop-i-init : goal.loop-i-init
loop-i-init c = (refl, stored_first _ _ _)

pub overflow_add-at : goal.overflow_add-at
overflow_add-at c = omega (arith, c.requires.0, c.requires.1)

pub loop-i-preserved : goal.loop-i-preserved
loop-i-preserved c = (ap length c.put.ensures ∙ simp length-set c.loop-i.invariant.0, rw c.put.ensures (stored_next _ _ _ _ c.loop-i-test.true ∙ c.loop-i.invariant.1))

pub shape_of-flat : goal.shape_of-flat
shape_of-flat c = c.loop-i.invariant.0

pub returns : goal.returns
returns c = sym (stored_done _ _ _ _ c.loop-i-test.false) ∙ c.loop-i.invariant.1
