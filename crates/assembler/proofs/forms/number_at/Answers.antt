-- `assembler::forms::number_at` meets its contract. Assumes nothing.
use Prim.Native.Nat.{◌+◌}
use mathlib.Core.Path.{refl}
use native.Mathlib.Omega.{arith}
use Rattle.assembler.proofs.forms.Laws.{pow_small, number_more, bound_more, number_done}
use Rattle.assembler.proofs.forms.number_at.Goals as goal

pub loop-j-init : goal.loop-j-init
loop-j-init c = (refl, omega arith)

pub overflow_mul-m : goal.overflow_mul-m
overflow_mul-m c = omega (arith, pow_small c.loop-j.j (omega arith))

pub overflow_add-m-in-loop-j : goal.overflow_add-m-in-loop-j
overflow_add-m-in-loop-j c = let l = c.loop-j in omega (arith, pow_small l.j (omega arith), c.type_inv.t (c.args.at + l.j))

pub loop-j-preserved : goal.loop-j-preserved
loop-j-preserved c = let a = c.args in let l = c.loop-j in let k = c.type_inv.t (a.at + l.j) in (number_more l.j a.at a.t.now _ _ l.invariant.0 refl, bound_more _ _ _ l.invariant.1 (omega arith))

pub returns : goal.returns
returns c = let a = c.args in number_done _ _ a.at a.t.now _ (omega arith) (omega arith) c.loop-j.invariant.0
