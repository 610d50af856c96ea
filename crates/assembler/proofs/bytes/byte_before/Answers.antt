-- `assembler::bytes::byte_before` meets its contract. Assumes nothing.
use native.Mathlib.Omega.{arith}
use Rattle.assembler.proofs.bytes.Laws.{before_start, before_end}
use Rattle.assembler.proofs.bytes.byte_before.Goals as goal

pub returns-then-j-n : goal.returns-then-j-n
returns-then-j-n c = before_end _ _ _ (omega arith) c.byte_at.ensures

pub returns-else-j-n : goal.returns-else-j-n
returns-else-j-n c = before_start _ _ (omega arith)
