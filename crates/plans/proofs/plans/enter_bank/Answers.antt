-- `plans::plans::enter_bank` meets its contract. Assumes nothing.
use Rattle.laws.specs.Choice.{pick}
use Rattle.std.proofs.Common.{le-leb}
use borrow.Author.Tests.{lt-leb}
use Rattle.plans.proofs.plans.enter_bank.Goals as goal

pub returns-then-w-c : goal.returns-then-w-c
unfolding pick
returns-then-w-c c = rw (le-leb _ _ c.if-w-c.true, c.to_register.ensures, c.banked.ensures, c.go.ensures)

pub returns : goal.returns
unfolding pick
returns c = rw (lt-leb _ _ c.if-w-c.false, c.stopped.ensures)
