-- `printing::put_shown` meets its contract. Assumes nothing.
use Rattle.printing.proofs.Entries.{shown_after, shown_error}
use Rattle.printing.proofs.put_shown.Goals as goal

pub returns-in-Ok : goal.returns-in-Ok
returns-in-Ok c = shown_after c.args.c c.args.w _ _ _ _ c.in-Ok.ensures

pub returns-in-Err : goal.returns-in-Err
returns-in-Err c = shown_error c.args.c c.args.w _ _ _ _ _ c.in-Err.ensures c.after_error.ensures
