-- `assembler::zeros::zeroed` meets its contract. Assumes nothing.
use Prim.Native.Nat.{◌+◌}
use mathlib.Core.Path.{◌∙◌}
use native.Mathlib.Omega.{arith}
use lib.ListN.{length}
use Rattle.std.proofs.lemmas.Slice.{between_to_end}
use Rattle.assembler.proofs.zeros.Laws.{put_zeros}
use Rattle.assembler.proofs.zeros.zeroed.Goals as goal

pub returns : goal.returns
returns c = put_zeros c.args.line.now c.args.from c.args.m c.requires.0 _ _ _ c.requires.1 c.requires.2 c.copy_from_slice.ensures.after (c.copy_from_slice-2.ensures.after ∙ between_to_end c.args.line.now (c.args.from + c.args.m) (length c.args.line.now) (omega arith))
