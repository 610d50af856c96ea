-- `text::writers::put_hex` meets its contract. Assumes nothing.
use native.Mathlib.Omega.{arith}
use lib.ListN.{length-set}
use Rattle.text.proofs.Spelled.{pair_next, digit_last, digits_done}
use Rattle.text.proofs.writers.put_hex.Goals.{then-odd-eq1, else-odd-eq1}
use Rattle.text.proofs.writers.put_hex.Goals as goal

pub loop-i-preserved : goal.loop-i-preserved
loop-i-preserved c = (
  simp length-set c.loop-i.invariant.0,
  pair_next c.loop-i.page _ c.args.at _ _ _ _ c.loop-i.rest _ _ c.hex_pair.ensures (omega arith) (omega (arith, c.loop-i-test.true)) c.loop-i.invariant.1,
)

pub returns : goal.returns
returns c =
    elim c.if-odd-eq1.branch [
      | then-odd-eq1 w ↦ rw w.page-is (digit_last c.loop-i.page _ c.args.at _ _ c.loop-i.rest _ _ w.hex_pair-then-odd-eq1.ensures (omega (arith, w.if-odd-eq1.true, c.loop-i-test.false)) c.loop-i.invariant.1)
      | else-odd-eq1 w ↦ rw w.page-is (digits_done c.loop-i.page _ c.args.at _ _ c.loop-i.rest _ (omega (arith, w.if-odd-eq1.false, c.loop-i-test.false)) c.loop-i.invariant.1)
    ]
