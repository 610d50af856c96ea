-- The numbers of refused words are digits.
-- Assumes nothing.
use Prim.Native.Nat.{◌<◌}
use native.Mathlib.Omega.{arith}
use Rattle.words.specs.declared.Refusal.{Refusal}
use Rattle.words.specs.declared.Refusal.TheVariants.{Unlawful, NoRow, Unavailable, OutOfRange}
use Rattle.words.specs.Answers.{refusal_number}

pub small_number : (x : Refusal) → refusal_number x < 10
unfolding refusal_number
small_number Unlawful = omega arith
small_number NoRow = omega arith
small_number Unavailable = omega arith
small_number OutOfRange = omega arith
