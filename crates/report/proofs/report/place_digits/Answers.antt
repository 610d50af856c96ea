-- `report::report::place_digits` meets its contract. Assumes nothing.
use Rattle.report.proofs.Texts.{single, banked}
use Rattle.report.proofs.report.place_digits.Goals as goal

pub returns-then-c : goal.returns-then-c
returns-then-c c = single c.args.c c.if-c.true

pub returns-else-c : goal.returns-else-c
returns-else-c c = banked c.args.c c.if-c.false
