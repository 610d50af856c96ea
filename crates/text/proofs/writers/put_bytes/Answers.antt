-- `text::writers::put_bytes` meets its contract. Assumes nothing.
use mathlib.Core.Path.{refl}
use native.Mathlib.Nat.{add-zero}
use native.Mathlib.Omega.{arith}
use lib.ListN.{length-set}
use Rattle.text.proofs.Spelled.{byte_next, bytes_done}
use Rattle.text.proofs.writers.put_bytes.Goals as goal

pub loop-i-init : goal.loop-i-init
loop-i-init c = (omega arith, refl, rw add-zero)

pub loop-i-preserved : goal.loop-i-preserved
loop-i-preserved c = (omega arith, simp length-set c.loop-i.invariant.1, byte_next c.loop-i.page c.args.page.now c.args.bytes.now c.args.at c.loop-i.i (omega arith) c.loop-i.invariant.2)

pub returns : goal.returns
returns c = bytes_done _ _ _ _ c.loop-i.i (omega arith) (omega arith) c.loop-i.invariant.2
