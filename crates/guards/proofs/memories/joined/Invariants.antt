-- `guards::memories::joined` meets its contract. Assumes nothing.
use mathlib.Core.Path.{◌≡◌}
use lib.Bits.{bit_or}
use lib.ListN.{take}
use Rattle.std.specs.List.{fold}
use Rattle.guards.proofs.memories.joined.Given as goal

abbrev pub invariant-loop-x : goal.invariant-loop-x
invariant-loop-x l = l.all ≡ fold bit_or 0 (take l.x-index l.xs)
