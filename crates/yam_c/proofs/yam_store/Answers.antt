-- `yam_c::yam_store` meets its contract. Assumes nothing.
use Rattle.yam_c.proofs.Calls.{store_passed, store_refused}
use Rattle.yam_c.proofs.yam_store.Goals as goal

pub returns-in-Ok : goal.returns-in-Ok
returns-in-Ok c = store_passed _ _ _ (rw c.config_from.ensures at c.store.ensures.answer) c.in-Ok.is

pub returns-in-Err : goal.returns-in-Err
returns-in-Err c = store_refused _ _ _ (rw c.config_from.ensures at c.store.ensures.answer) _ _ c.in-Err.is c.number.ensures
