-- `assembler::bytes::newlines` meets its contract. Assumes nothing.
use Prim.Native.Nat.{◌+◌, ◌-◌}
use lib.Dec.{eqb}
use lib.ListN.{get_or}
use native.Mathlib.Omega.{arith}
use Rattle.assembler.proofs.bytes.Laws.{newlines_few, newlines_more, bit_few, newlines_done}
use Rattle.assembler.proofs.bytes.newlines.Goals as goal

pub overflow_mul-m : goal.overflow_mul-m
overflow_mul-m c = omega (arith, newlines_few (16 - c.loop-j.j) c.args.text.now (c.args.from + c.loop-j.j) (omega arith), c.loop-j.invariant)

pub overflow_add-m : goal.overflow_add-m
overflow_add-m c = omega (arith, newlines_few (16 - c.loop-j.j) c.args.text.now (c.args.from + c.loop-j.j) (omega arith), c.loop-j.invariant, bit_few (eqb (get_or c.args.text.now (c.args.from + (c.loop-j.j - 1)) 0) 10), c.from.ensures)

pub loop-j-preserved : goal.loop-j-preserved
loop-j-preserved c = newlines_more c.args.text.now c.args.from c.loop-j.j _ _ (omega arith) (omega arith) c.loop-j.invariant c.from.ensures

pub returns : goal.returns
returns c = newlines_done c.args.text.now c.args.from c.loop-j.j _ (omega arith) c.loop-j.invariant
