-- `yam_check::verdict` meets its contract. Assumes nothing.
use Rattle.yam_check.proofs.Verdicts.{refused_put, checked_put}
use Rattle.yam_check.proofs.verdict.Goals as goal

pub returns-in-Err : goal.returns-in-Err
returns-in-Err c = refused_put c.args.file.now c.args.certificate.now c.args.image.now _ _ c.in-Err.ensures (rw (← c.number.ensures) c.refusal.ensures)

pub returns-in-Ok : goal.returns-in-Ok
returns-in-Ok c = checked_put c.args.file.now c.args.certificate.now c.args.image.now _ _ c.in-Ok.ensures _ c.first-words.ensures _ c.check-r.ensures.answer c.put_verdict.ensures
