-- Words at the width, and a flag, are what state's `alu` cuts them to.
-- Assumes nothing.
use Rattle.std.proofs.Common.{◌≡◌, ℕ, ◌%◌, ◌^◌, ◌≤◌, mod-eq_of_lt, arith}
use Rattle.words.specs.declared.Operation.{Operation}
use Rattle.arith.specs.Alu.{alu_of, Within}

flag_same : (n : ℕ) → n ≤ 1 → n % 2 ≡ n
flag_same n h = omega arith

pub within_alu : (o : Operation) {w d s n : ℕ} → Within w d s n → alu_of w o d s n ≡ alu_of w o (d % 2 ^ w) (s % 2 ^ w) (n % 2)
within_alu o h = rw (mod-eq_of_lt h.left, mod-eq_of_lt h.right, flag_same _ h.flag)
