-- `report::fields::put_value_changes` meets its contract. Assumes nothing.
use Rattle.printing.proofs.Printers.{prints_as}
use Rattle.report.proofs.Loops.{zip_on, zip_done}
use Rattle.report.proofs.Tables.{value_change, value_changes_are}
use Rattle.report.proofs.fields.put_value_changes.Goals as goal

pub loop-x-preserved : goal.loop-x-preserved
loop-x-preserved c = zip_on value_change c.args.old.now c.args.new.now c.loop-x.yielded _ _ c.next.new.self _ (cc) (cc) c.loop-x.yielded_by _ c.in-Some.is c.next.ensures.steps c.loop-x.invariant c.put_change.ensures

pub returns : goal.returns
returns c = prints_as (value_changes_are 0 c.args.old.now c.args.new.now) (zip_done _ c.args.old.now c.args.new.now c.loop-x.yielded _ _ c.next.new.self _ (cc) (cc) c.loop-x.yielded_by c.in-None.is c.next.ensures.steps c.loop-x.invariant)
