-- `assembler::labels::Labels::insert` meets its contract. Assumes nothing.
use mathlib.Core.Path.{refl}
use native.Mathlib.Omega.{arith}
use Rattle.assembler.proofs.labels.Laws.{chained_entry, inserted}
use Rattle.assembler.proofs.labels.Labels.insert.Goals as goal

pub invariant_of-self : goal.invariant_of-self
invariant_of-self c = record { few = omega (arith, c.requires); chained = chained_entry _ _ _ _ _ _ c.args.self.now.chained (omega arith) (omega arith) c.hash-h.ensures.value }

pub returns : goal.returns
returns c = inserted _ _ _ _ _ _ refl refl c.cap.ensures (omega arith)
