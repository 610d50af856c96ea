-- `text::forms::last_mark` meets its contract. Assumes nothing.
use borrow.Author.Tests.{eq-eqb, ne_eqb}
use Rattle.laws.specs.Choice.{pick}
use Rattle.text.specs.Packed.{last_mark}
use Rattle.text.proofs.forms.last_mark.Goals.{else-flagged-eq1-via-then-flagged-eq1+else-bit-ne0, else-flagged-eq1-via-else-flagged-eq1}
use Rattle.text.proofs.forms.last_mark.Goals as goal

pub returns-then-bit-ne0 : goal.returns-then-bit-ne0
unfolding last_mark pick
returns-then-bit-ne0 c = rw (eq-eqb c.args.flagged 1 c.if-flagged-eq1.true, ne_eqb c.args.bit 0 c.if-bit-ne0.true)

pub returns-else-flagged-eq1 : goal.returns-else-flagged-eq1
unfolding last_mark pick
returns-else-flagged-eq1 c =
    elim c.else-flagged-eq1.branch [
      | else-flagged-eq1-via-then-flagged-eq1+else-bit-ne0 w ↦ rw (eq-eqb c.args.flagged 1 w.if-flagged-eq1.true, eq-eqb c.args.bit 0 w.if-bit-ne0.false)
      | else-flagged-eq1-via-else-flagged-eq1 w ↦ rw (ne_eqb c.args.flagged 1 w.if-flagged-eq1.false)
    ]
