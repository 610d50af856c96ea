-- `assembler::forms::differs` meets its contract. Assumes nothing.
use mathlib.Core.Bool.{not}
use mathlib.Core.Path.{◌≡◌}
use Rattle.assembler.specs.Packed.{form_table, matching}
use Rattle.assembler.proofs.forms.differs.Given as goal

abbrev pub invariant-loop-j : goal.invariant-loop-j
invariant-loop-j l = l.bad ≡ not (matching l.j form_table l.from l.t l.at)
