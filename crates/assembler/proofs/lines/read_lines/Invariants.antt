-- `assembler::lines::read_lines` meets its contract. The loop's invariant: what is left of the lines, after what is read, is the whole. Assumes nothing.
use Prim.Native.Nat.{suc, ◌-◌}
use lib.ListN.{length}
use Rattle.assembler.proofs.lines.Laws.{Passing}
use Rattle.assembler.proofs.lines.read_lines.Given as goal

abbrev pub invariant-loop-s : goal.invariant-loop-s
invariant-loop-s l = Passing l.writer.config l.text l.initial.words l.s l.line l.count l.words

abbrev pub decreases-loop-s : goal.decreases-loop-s
decreases-loop-s l = suc (length l.text) - l.s
