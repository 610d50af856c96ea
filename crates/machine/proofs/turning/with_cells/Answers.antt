-- `machine::turning::with_cells` meets its contract. Assumes nothing.
use native.Mathlib.Omega.{arith}
use Rattle.machine.proofs.Cached.{none_cached}
use Rattle.machine.proofs.turning.with_cells.Goals as goal

pub whole_as_slice-turning : goal.whole_as_slice-turning
whole_as_slice-turning g c = omega (arith, c.requires.4)

pub turning-requires : goal.turning-requires
turning-requires c d = (none_cached d.args.c d.args.image.now _ _ (omega (arith, d.requires.3)), d.requires.0, d.requires.1, d.requires.2)
