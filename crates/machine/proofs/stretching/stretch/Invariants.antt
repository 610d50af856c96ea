-- `machine::stretching::stretch` meets its contract. Assumes nothing.
use mathlib.Core.Path.{◌≡◌}
use Rattle.state.specs.State.{env, state}
use Rattle.machine.specs.Stretching.{Reached}
use Rattle.machine.proofs.stretching.stretch.Given as goal

abbrev pub invariant-loop-done : goal.invariant-loop-done
invariant-loop-done l = Reached (env l.c l.image l.inputs) (state l.initial.core l.initial.stack l.initial.registers l.initial.memory l.initial.addresses l.initial.values) (state l.core l.stack l.registers l.memory l.addresses l.values) l.done l.cycles × (l.core.mode ≡ 0)
