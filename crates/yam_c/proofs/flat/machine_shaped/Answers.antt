-- `yam_c::flat::machine_shaped` meets its contract. Assumes nothing.
use Rattle.yam_c.proofs.Machines.{shaped_by, unshaped}
use Rattle.yam_c.proofs.flat.machine_shaped.Goals as goal

pub returns-then-flat-ne-MACHINE_WORDS : goal.returns-then-flat-ne-MACHINE_WORDS
returns-then-flat-ne-MACHINE_WORDS c = unshaped c.args.flat.now c.if-flat-ne-MACHINE_WORDS.true

pub returns : goal.returns
returns c = shaped_by c.args.flat.now _ c.if-flat-ne-MACHINE_WORDS.false c.joined-above.ensures
