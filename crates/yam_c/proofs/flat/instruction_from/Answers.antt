-- `yam_c::flat::instruction_from` meets its contract. Assumes nothing.
use Rattle.laws.specs.Choice.{pick}
use borrow.Author.Tests.{eq-eqb, ne_eqb}
use Rattle.yam_c.specs.Flat.{instruction_of}
use Rattle.yam_c.proofs.flat.instruction_from.Goals as goal

pub returns-then-flat-eq-INSTRUCTION_WORDS : goal.returns-then-flat-eq-INSTRUCTION_WORDS
unfolding instruction_of pick
returns-then-flat-eq-INSTRUCTION_WORDS c = rw (c.instruction_in.ensures, eq-eqb _ _ c.if-flat-eq-INSTRUCTION_WORDS.true)

pub returns-else-flat-eq-INSTRUCTION_WORDS : goal.returns-else-flat-eq-INSTRUCTION_WORDS
unfolding instruction_of pick
returns-else-flat-eq-INSTRUCTION_WORDS c = rw (ne_eqb _ _ c.if-flat-eq-INSTRUCTION_WORDS.false)
