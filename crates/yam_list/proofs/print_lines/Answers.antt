-- `yam_list::print_lines` meets its contract. Assumes nothing.
use Rattle.yam_list.proofs.Pages.{lines_end, lines_go_on}
use Rattle.yam_list.proofs.print_lines.Goals as goal

pub returns-in-Ok : goal.returns-in-Ok
returns-in-Ok c = lines_end c.args.c c.args.image.now _ _ _ _ c.requires.0 c.requires.1 c.list_page-r.ensures c.in-Ok.is

pub returns-in-Err : goal.returns-in-Err
returns-in-Err c = lines_go_on c.args.c c.args.image.now _ _ _ _ c.requires.0 c.requires.1 c.list_page-r.ensures c.in-Err.is
