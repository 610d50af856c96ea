-- The bytes to come fall where they are to fall.
use Rattle.std.proofs.Common.{◌≡◌, ◌+◌, ◌≤◌, length, drop}
use lib.Seq.{sets}
use Rattle.text.proofs.writers.put_bytes.Given as goal

abbrev pub invariant-loop-i : goal.invariant-loop-i
invariant-loop-i l = (l.i ≤ length l.bytes) × (length l.page ≡ length l.initial.page) × (sets l.page (l.at + l.i) (drop l.i l.bytes) ≡ sets l.initial.page l.at l.bytes)
