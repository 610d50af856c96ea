-- `plans::values::log2_of` meets its contract. Assumes nothing.
use Rattle.std.proofs.Common.{arith}
use Rattle.state.specs.Operands.{log2}
use Rattle.plans.proofs.values.log2_of.Goals as goal

pub returns : goal.returns
unfolding log2
returns c = ((rw (c.one.ensures.0, c.one-2.ensures.0, c.one-3.ensures.0, c.one-4.ensures.0, c.one-5.ensures.0, c.one-6.ensures.0, c.one-7.ensures.0, c.one-8.ensures.0, c.one-9.ensures.0, c.one-10.ensures.0, c.one-11.ensures.0, c.one-12.ensures.0, c.one-13.ensures.0, c.one-14.ensures.0, c.one-15.ensures.0)), omega arith)
