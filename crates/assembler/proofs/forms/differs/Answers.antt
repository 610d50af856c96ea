-- `assembler::forms::differs` meets its contract. Assumes nothing.
use native.Mathlib.Omega.{arith}
use Rattle.assembler.proofs.forms.Laws.{differs_more, differs_done}
use Rattle.assembler.proofs.forms.differs.Goals as goal

pub loop-j-preserved : goal.loop-j-preserved
loop-j-preserved c = let a = c.args in let l = c.loop-j in differs_more _ _ l.j a.from a.t.now a.at _ l.invariant c.form_byte.ensures c.admits_byte.ensures

pub returns : goal.returns
returns c = let a = c.args in differs_done _ c.loop-j.j a.n a.from a.t.now a.at c.loop-j.invariant (omega arith) (omega arith)
