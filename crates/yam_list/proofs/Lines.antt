-- The line of a refusal is short. Assumes nothing.
use Prim.Native.Nat.{ℕ, ◌≤◌, ◌<◌}
use native.Mathlib.Omega.{arith}
use lib.ListN.{length, length-append}
use Rattle.syntax.specs.Quoted.{quoted}
use Rattle.printing.specs.Numerals.{decimal, refusal_line}
use Rattle.printing.proofs.Numerals.{decimal_short}
use Rattle.yam_list.specs.Printing.{refusal_bytes}

pub refusal_short : (n : ℕ) → n < 100 → length (refusal_line n) ≤ refusal_bytes
unfolding refusal_line
refusal_short n h = omega (arith, length-append (decimal n) (quoted "\n"), decimal_short n h)
