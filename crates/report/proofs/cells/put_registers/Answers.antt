-- `report::cells::put_registers` meets its contract. Assumes nothing.
use Rattle.printing.proofs.Printers.{prints_as}
use Rattle.report.specs.Cells.{register_text}
use Rattle.report.proofs.Loops.{each_on, each_done}
use Rattle.report.proofs.Tables.{registers_are}
use Rattle.report.proofs.cells.put_registers.Goals as goal

pub loop-i-preserved : goal.loop-i-preserved
loop-i-preserved c = each_on (register_text c.args.d c.args.w) c.args.cells.now c.loop-i.i 0 c.loop-i-test.true c.loop-i.invariant c.put_register.ensures

pub returns : goal.returns
returns c = prints_as (registers_are c.args.d c.args.w 0 c.args.cells.now) (each_done _ c.args.cells.now c.loop-i.i c.loop-i-test.false c.loop-i.invariant)
