-- `yam_list::print_page` meets its contract. Assumes nothing.
use Rattle.yam_list.proofs.Pages.{refusal_to_come, lines_to_come}
use Rattle.yam_list.proofs.print_page.Goals as goal

pub returns-in-Ok : goal.returns-in-Ok
returns-in-Ok c = rw c.in-Ok.is (lines_to_come c.in-Ok.c c.args.image.now _ _ _ _ c.print_lines.ensures)

pub returns-in-Err : goal.returns-in-Err
returns-in-Err c = rw c.in-Err.is (refusal_to_come c.in-Err.refusal _ c.args.image.now _ _ _ _ c.number.ensures c.print_refusal.ensures)
