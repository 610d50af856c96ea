-- `assembler::keys::Key::of` meets its contract. Assumes nothing.
use Prim.Native.Nat.{◌^◌, ◌<◌}
use mathlib.Core.Bool.{◌||◌}
use mathlib.Core.Path.{◌≡◌}
use lib.ListN.{drop}
use Rattle.syntax.specs.Lines.{beyond}
use Rattle.assembler.specs.Chains.{spell}
use Rattle.assembler.proofs.keys.Key.of.Given as goal

abbrev pub invariant-loop-b : goal.invariant-loop-b
invariant-loop-b l =
    (l.number < 32 ^ l.b-index) × (spell 0 l.letters ≡ spell l.number (drop l.b-index l.letters)) × (beyond l.letters ≡ (l.beyond || beyond (drop l.b-index l.letters)))
