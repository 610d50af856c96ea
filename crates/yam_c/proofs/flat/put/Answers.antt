-- `yam_c::flat::put` meets its contract. Assumes nothing.
use mathlib.Core.Path.{sym}
use lib.Seq.{set_out}
use Rattle.yam_c.proofs.flat.put.Goals as goal

pub returns-else-i-flat : goal.returns-else-i-flat
returns-else-i-flat g c = sym (set_out _ _ _ c.if-i-flat.false)
