-- `report::cells::put_pairs` meets its contract. Assumes nothing.
use Rattle.printing.proofs.Printers.{prints_as}
use Rattle.report.proofs.Loops.{zip_on, zip_done}
use Rattle.report.proofs.Tables.{pair, pairs_are}
use Rattle.report.proofs.cells.put_pairs.Goals as goal

pub loop-a-preserved : goal.loop-a-preserved
loop-a-preserved c = zip_on (pair c.args.before.now c.args.w c.args.between.now c.args.after.now) c.args.addresses.now c.args.values.now c.loop-a.yielded _ _ c.next.new.self _ (cc) (cc) c.loop-a.yielded_by _ c.in-Some.is c.next.ensures.steps c.loop-a.invariant c.put_pair.ensures

pub returns : goal.returns
returns c = prints_as (pairs_are c.args.before.now c.args.w c.args.between.now c.args.after.now 0 c.args.addresses.now c.args.values.now) (zip_done _ c.args.addresses.now c.args.values.now c.loop-a.yielded _ _ c.next.new.self _ (cc) (cc) c.loop-a.yielded_by c.in-None.is c.next.ensures.steps c.loop-a.invariant)
