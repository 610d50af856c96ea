-- `yam_pack::put_packed` meets its contract. Assumes nothing.
use Rattle.yam_pack.proofs.Packing.{file_printed, error_printed}
use Rattle.yam_pack.proofs.put_packed.Goals as goal

pub returns-in-Ok : goal.returns-in-Ok
returns-in-Ok c = file_printed _ _ _ _ _ c.in-Ok.ensures

pub returns-in-Err : goal.returns-in-Err
returns-in-Err c = error_printed _ _ _ _ _ _ _ c.in-Err.ensures c.put_error.ensures
