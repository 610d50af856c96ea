-- `yam_c::yam_load` meets its contract. Assumes nothing.
use Rattle.yam_c.proofs.Back.{config_back}
use Rattle.yam_c.proofs.Calls.{load_misfit, load_refused, load_passed}
use Rattle.yam_c.proofs.yam_load.Goals as goal

pub returns-then-config-ne-CONFIG_WORDS : goal.returns-then-config-ne-CONFIG_WORDS
returns-then-config-ne-CONFIG_WORDS c = (load_misfit _ _ _ c.if-config-ne-CONFIG_WORDS.true, config_back)

pub returns-in-Ok : goal.returns-in-Ok
returns-in-Ok c = (load_passed c.args.file.now c.args.config.now c.args.image.now _ _ _ (rw c.in-Ok.is at c.load.ensures) c.if-config-ne-CONFIG_WORDS.false c.config_into.ensures, config_back)

pub returns-in-Err : goal.returns-in-Err
returns-in-Err c = (load_refused c.args.file.now c.args.config.now c.args.image.now _ _ _ (rw c.in-Err.is at c.load.ensures) c.number.ensures c.if-config-ne-CONFIG_WORDS.false, config_back)
