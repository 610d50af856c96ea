-- `plans::plans::ret_constant` meets its contract. Assumes nothing.
use Rattle.laws.specs.Choice.{pick}
use Rattle.std.proofs.Common.{◌<◌, arith, lt-ltb}
use Rattle.plans.proofs.plans.ret_constant.Goals as goal

pub returns-then-d-eq0 : goal.returns-then-d-eq0
unfolding pick
returns-then-d-eq0 c = simp (c.if-d-eq0.true, c.stopped.ensures)

pub returns : goal.returns
unfolding pick
returns c = let h : 0 < c.args.m.depth = omega arith in simp (lt-ltb _ _ h, c.change.ensures, c.returned.ensures)
