-- `yam_c::flat::config_from` meets its contract. Assumes nothing.
use Rattle.laws.specs.Choice.{pick}
use borrow.Author.Tests.{eq-eqb, ne_eqb}
use Rattle.yam_c.specs.Flat.{config_of}
use Rattle.yam_c.proofs.flat.config_from.Goals as goal

pub returns-then-flat-eq-CONFIG_WORDS : goal.returns-then-flat-eq-CONFIG_WORDS
unfolding config_of pick
returns-then-flat-eq-CONFIG_WORDS c = rw (c.config_in.ensures, eq-eqb _ _ c.if-flat-eq-CONFIG_WORDS.true)

pub returns-else-flat-eq-CONFIG_WORDS : goal.returns-else-flat-eq-CONFIG_WORDS
unfolding config_of pick
returns-else-flat-eq-CONFIG_WORDS c = rw (c.config_in-else-flat-eq-CONFIG_WORDS.ensures, ne_eqb _ _ c.if-flat-eq-CONFIG_WORDS.false)
