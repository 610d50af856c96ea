-- The lists keep their lengths.
use Rattle.std.proofs.Common.{◌≡◌, length}
use Rattle.yam_run.proofs.trace.trace_from_reset.Given as goal

abbrev pub invariant-loop-steps : goal.invariant-loop-steps
invariant-loop-steps g l = (length l.before.registers.now ≡ length l.lent.registers.now) × (length l.before.memory.now ≡ length l.lent.memory.now)
