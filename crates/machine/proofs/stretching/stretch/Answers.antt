-- `machine::stretching::stretch` meets its contract. Assumes nothing.
use native.Mathlib.Omega.{arith}
use Rattle.machine.proofs.stretching.Laws.{reached_more, more_cycles, came_stopped}
use Rattle.machine.proofs.stretching.stretch.Goals as goal

pub returns-then-t-ne0 : goal.returns-then-t-ne0
returns-then-t-ne0 c = came_stopped _ _ _ _ _ _ _ c.loop-done.invariant.0 c.loop-done.invariant.1 _ _ c.advance-t.ensures c.if-t-ne0.true c.loop-done-test.true

pub overflow_add-cycles : goal.overflow_add-cycles
overflow_add-cycles c = omega (arith, more_cycles _ _ _ _ _ c.loop-done.invariant.0 _ (c.advance-t.ensures.step (omega (arith, c.if-t-ne0.false))) c.if-t-ne0.false, c.loop-done-test.true, c.requires.5)

pub loop-done-preserved : goal.loop-done-preserved
loop-done-preserved c = (
  reached_more _ _ _ _ _ c.loop-done.invariant.0 _ (c.advance-t.ensures.step (omega (arith, c.if-t-ne0.false))) c.if-t-ne0.false
      (record { stack = c.advance-t.auto.stack; registers = c.advance-t.auto.registers; memory = c.advance-t.auto.memory; addresses = c.advance-t.auto.addresses; values = c.advance-t.auto.values }),
  c.advance-t.ensures.mode,
)
