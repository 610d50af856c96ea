-- `machine::turning::fill` meets its contract. Assumes nothing.
use mathlib.Core.Path.{◌≡◌}
use lib.ListN.{length}
use Rattle.machine.specs.Cached.{Cached}
use Rattle.machine.proofs.turning.fill.Given as goal

abbrev pub invariant-loop-at : goal.invariant-loop-at
invariant-loop-at l = Cached l.c l.image l.mask l.cells × (length l.cells ≡ length l.initial.cells)
