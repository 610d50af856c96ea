-- `arith::alu` meets its contract: the operands are cut to the width, so `alu_within` computes.
-- Assumes nothing.
use Rattle.arith.proofs.Laws.{cut_within}
use Rattle.arith.proofs.DoubleSums.{double_sums}
use Rattle.arith.proofs.alu.Goals as goal

pub returns : goal.returns
returns c = record {
  answer = rw (c.alu_within.ensures (cut_within c.of-w.ensures _ _ _ c.truncate.ensures c.truncate-2.ensures), c.truncate-2.ensures, c.truncate.ensures, c.of-w.ensures);
  double_sums = double_sums;
}
