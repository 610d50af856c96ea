-- `assembler::bytes::next_newline` meets its contract. The loop's invariant: no newline was passed. Assumes nothing.
use Prim.Native.Nat.{ℕ, ◌<◌, ◌≤◌}
use mathlib.Core.Path.{◌≡◌}
use lib.ListN.{get_or}
use Rattle.assembler.proofs.bytes.next_newline.Given as goal

abbrev pub invariant-loop-j : goal.invariant-loop-j
invariant-loop-j l = (k : ℕ) → l.from ≤ k → k < l.j → get_or l.text k 0 ≡ 10 → ⊥
