-- `assembler::forms::mark_of` meets its contract. Assumes nothing.
use native.Mathlib.Omega.{arith}
use Rattle.assembler.proofs.forms.Laws.{mark_digit, mark_other}
use Rattle.assembler.proofs.forms.mark_of.Goals as goal

pub returns-then-is_hex : goal.returns-then-is_hex
returns-then-is_hex c = (mark_digit _ _ c.is_hex.ensures c.if-is_hex.true, omega arith)

pub returns-else-is_hex : goal.returns-else-is_hex
returns-else-is_hex c = (mark_other _ _ c.is_hex.ensures c.if-is_hex.false, omega arith)
