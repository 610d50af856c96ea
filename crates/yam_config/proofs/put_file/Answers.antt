-- `yam_config::put_file` meets its contract. Assumes nothing.
use Rattle.yam_config.proofs.Lines.{refused_put, config_put, words_put}
use Rattle.yam_config.proofs.put_file.Goals as goal

pub returns-in-Err : goal.returns-in-Err
returns-in-Err c = refused_put c.args.asked c.args.file.now c.args.image.now _ _ c.in-Err.ensures (rw (← c.number.ensures) c.refusal.ensures)

pub returns-then-asked : goal.returns-then-asked
returns-then-asked c = words_put c.args.asked c.args.file.now c.args.image.now _ _ c.in-Ok.ensures c.if-asked.true _ c.first.ensures c.put_words.ensures

pub returns-else-asked : goal.returns-else-asked
returns-else-asked c = config_put c.args.asked c.args.file.now c.args.image.now _ _ c.in-Ok.ensures c.if-asked.false c.put_generics.ensures.0
