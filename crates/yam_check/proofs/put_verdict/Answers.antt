-- `yam_check::put_verdict` meets its contract. Assumes nothing.
use Rattle.yam_check.proofs.Verdicts.{passed_put}
use Rattle.yam_check.proofs.put_verdict.Goals as goal

pub returns-in-Ok : goal.returns-in-Ok
returns-in-Ok c = passed_put c.args.c c.args.image.now _ _ c.in-Ok.is c.put_passes.ensures

pub returns-in-Err : goal.returns-in-Err
returns-in-Err c = rw c.in-Err.is c.put_fault.ensures
