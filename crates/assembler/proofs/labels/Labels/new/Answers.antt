-- `assembler::labels::Labels::new` meets its contract. Assumes nothing.
use native.Mathlib.Omega.{arith}
use Rattle.assembler.proofs.labels.Laws.{all_zero, chained_none}
use Rattle.assembler.proofs.labels.Labels.new.Goals as goal

pub invariant_of-result : goal.invariant_of-result
invariant_of-result c = record { few = omega arith; chained = chained_none _ _ _ (λ h k. all_zero 1024 h) }
