-- `assembler::gathering::gather` meets its contract. The loop's invariant: what is left of the lines, after what is gathered, is the whole. Assumes nothing.
use Prim.Native.Nat.{suc, ◌-◌}
use lib.ListN.{length}
use Rattle.assembler.proofs.gathering.Laws.{Going}
use Rattle.assembler.proofs.gathering.gather.Given as goal

abbrev pub invariant-loop-s : goal.invariant-loop-s
invariant-loop-s l = Going l.text l.room l.s l.line l.words l.twice l.labels

abbrev pub decreases-loop-s : goal.decreases-loop-s
decreases-loop-s l = suc (length l.text) - l.s
