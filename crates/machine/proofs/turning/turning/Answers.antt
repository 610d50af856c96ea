-- `machine::turning::turning` meets its contract. Assumes nothing.
use native.Mathlib.Omega.{arith}
use Rattle.machine.proofs.stretching.Laws.{reached_done, run_ends, image_ends}
use Rattle.machine.proofs.single.Laws.{past_image}
use Rattle.machine.proofs.turning.turning.Goals as goal

pub returns-then-c-pc : goal.returns-then-c-pc
returns-then-c-pc c = image_ends _ _ _ _ _ c.args.budget c.loop-done.invariant.0 c.loop-done-test.true (past_image _ _ c.if-c-pc.true)

pub returns-then-ends : goal.returns-then-ends
returns-then-ends c = run_ends _ _ _ _ _ c.args.budget c.loop-done.invariant.0 c.loop-done-test.true _ _ c.by_cell-t.ensures (c.ends.ensures.0 c.if-ends.true).0 (c.ends.ensures.0 c.if-ends.true).1

pub returns : goal.returns
returns c = reached_done _ _ _ _ _ c.loop-done.invariant.0 c.args.budget (omega (arith, c.loop-done-test.false, c.loop-done.invariant.1))
