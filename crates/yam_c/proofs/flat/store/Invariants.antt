-- `yam_c::flat::store` meets its contract. Assumes nothing.
use mathlib.Core.Path.{◌≡◌}
use Prim.Native.Nat.{◌+◌}
use lib.ListN.{length, drop}
use Rattle.yam_c.specs.Flat.{stored}
use Rattle.yam_c.proofs.flat.store.Given as goal

abbrev pub invariant-loop-i : goal.invariant-loop-i
invariant-loop-i l = (length l.flat ≡ length l.initial.flat) × (stored l.flat (l.at + l.i) (drop l.i l.values) ≡ stored l.initial.flat l.at l.values)
