-- `report::cells::put_cell_changes` meets its contract. Assumes nothing.
use native.Mathlib.Omega.{arith}
use Rattle.printing.proofs.Printers.{prints_as}
use Rattle.report.proofs.Loops.{pairs_on, pairs_done}
use Rattle.report.proofs.Tables.{change, changes_are}
use Rattle.report.proofs.cells.put_cell_changes.Goals as goal

pub loop-i-preserved : goal.loop-i-preserved
loop-i-preserved c =
    let most = c.min-i-end.ensures in
    pairs_on (change c.args.mark.now c.args.d c.args.w) c.args.old.now c.args.new.now c.loop-i.i 0 0 (omega (arith, most, c.loop-i-test.true)) (omega (arith, most, c.loop-i-test.true)) c.loop-i.invariant c.put_cell_change.ensures

pub returns : goal.returns
returns c =
    let most = c.min-i-end.ensures in
    prints_as (changes_are c.args.mark.now c.args.d c.args.w 0 c.args.old.now c.args.new.now)
    (pairs_done _ c.args.old.now c.args.new.now c.loop-i.i (omega (arith, most, c.loop-i-test.false)) c.loop-i.invariant)
