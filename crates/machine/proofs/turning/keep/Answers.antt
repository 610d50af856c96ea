-- `machine::turning::keep` meets its contract. Assumes nothing.
use mathlib.Core.Logic.{inr}
use Rattle.machine.proofs.Cached.{keep_cached, keep_at}
use Rattle.machine.proofs.turning.keep.Goals as goal

pub returns : goal.returns
returns c = (
  keep_cached c.args.c c.args.image.now c.args.mask c.args.cells.now c.args.pc c.args.x c.requires.0 (inr (c.requires.1, c.requires.2, c.requires.3)),
  keep_at c.args.c c.args.image.now c.args.mask c.args.cells.now c.args.pc c.args.x c.requires.0 (inr (c.requires.1, c.requires.2, c.requires.3)),
)
