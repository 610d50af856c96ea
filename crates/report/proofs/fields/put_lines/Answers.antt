-- `report::fields::put_lines` meets its contract. Assumes nothing.
use Rattle.printing.proofs.Printers.{prints_as}
use Rattle.report.proofs.Loops.{each_on, each_done}
use Rattle.report.proofs.Tables.{value_line, lines_are}
use Rattle.report.proofs.fields.put_lines.Goals as goal

pub loop-f-preserved : goal.loop-f-preserved
loop-f-preserved c = each_on value_line c.args.values.now c.loop-f.f-index _ c.loop-f-test.true c.loop-f.invariant c.put_line.ensures

pub returns : goal.returns
returns c = prints_as (lines_are 0 c.args.values.now) (each_done _ c.args.values.now c.loop-f.f-index c.loop-f-test.false c.loop-f.invariant)
