-- `report::cells::put_cells` meets its contract. Assumes nothing.
use Rattle.printing.proofs.Printers.{prints_as}
use Rattle.report.proofs.Loops.{each_on, each_done}
use Rattle.report.proofs.Tables.{cell, cells_are}
use Rattle.report.proofs.cells.put_cells.Goals as goal

pub loop-x-preserved : goal.loop-x-preserved
loop-x-preserved c = each_on (cell c.args.before.now c.args.w c.args.after.now) c.args.cells.now c.loop-x.x-index 0 c.loop-x-test.true c.loop-x.invariant c.put_cell.ensures

pub returns : goal.returns
returns c = prints_as (cells_are c.args.before.now c.args.w c.args.after.now 0 c.args.cells.now) (each_done _ c.args.cells.now c.loop-x.x-index c.loop-x-test.false c.loop-x.invariant)
