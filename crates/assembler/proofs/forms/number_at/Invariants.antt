-- `assembler::forms::number_at` meets its contract. Assumes nothing.
use Prim.Native.Nat.{◌+◌, ◌*◌, ◌^◌, ◌≤◌}
use mathlib.Core.Path.{◌≡◌}
use lib.ListN.{drop}
use Rattle.syntax.specs.Pieces.{number_in}
use Rattle.assembler.proofs.forms.number_at.Given as goal

abbrev pub invariant-loop-j : goal.invariant-loop-j
invariant-loop-j l = (l.m ≡ number_in l.j (drop l.at l.t)) × (l.m + 3 ≤ 3 * 16 ^ l.j)
