-- `yam_c::yam_reset` meets its contract. Assumes nothing.
use Rattle.laws.specs.Choice.{pick}
use Rattle.yam_c.proofs.Back.{machine_back}
use borrow.Author.Tests.{eq-eqb, ne_eqb}
use Rattle.yam_c.specs.Calls.{reset_call}
use Rattle.yam_c.proofs.yam_reset.Goals as goal

pub returns-then-machine-ne-MACHINE_WORDS : goal.returns-then-machine-ne-MACHINE_WORDS
unfolding reset_call pick
returns-then-machine-ne-MACHINE_WORDS c = (rw (ne_eqb _ _ c.if-machine-ne-MACHINE_WORDS.true), machine_back)

pub returns : goal.returns
unfolding reset_call pick
returns c = (rw (eq-eqb _ _ c.if-machine-ne-MACHINE_WORDS.false, c.machine_into.ensures, c.reset.ensures), machine_back)
