-- `assembler::labels::Labels::find` meets its contract. Assumes nothing.
use mathlib.Core.Path.{refl}
use native.Mathlib.Omega.{arith}
use Rattle.assembler.proofs.labels.Laws.{sought_first, entry_found, entry_next, sought_none}
use Rattle.assembler.proofs.labels.Labels.find.Goals as goal

pub loop-k-init : goal.loop-k-init
loop-k-init c = sought_first _ _ _ _ _ _ _ c.args.self.now.chained c.hash.ensures.value refl

pub returns-then-entry-key-clause-value : goal.returns-then-entry-key-clause-value
returns-then-entry-key-clause-value c = entry_found c.args.self.now.heads _ _ _ _ _ c.loop-k.invariant (omega arith) (omega arith) c.if-entry-key.true

pub loop-k-smaller : goal.loop-k-smaller
loop-k-smaller c = (entry_next _ _ _ _ _ _ c.loop-k.invariant (omega arith) (omega arith) c.args.self.now.chained c.if-entry-key.false).1

pub loop-k-preserved : goal.loop-k-preserved
loop-k-preserved c = (entry_next _ _ _ _ _ _ c.loop-k.invariant (omega arith) (omega arith) c.args.self.now.chained c.if-entry-key.false).0

pub returns-clause-value : goal.returns-clause-value
returns-clause-value c = sought_none _ _ _ _ c.loop-k.invariant (omega arith)
