-- `text::listing::list` meets its contract. Assumes nothing.
use Rattle.text.proofs.Whole.{lists}
use Rattle.text.proofs.listing.Laws.{refused_list, whole_list}
use Rattle.text.proofs.listing.list.Goals as goal

pub returns-in-Ok : goal.returns-in-Ok
returns-in-Ok c = lists _ _ _ _ _ _ _ (whole_list c.args.c c.args.image.now _ c.args.first _ _ _ c.in-Ok.ensures.config c.in-Ok.ensures.number c.list_lines.ensures)

pub returns-in-Err : goal.returns-in-Err
returns-in-Err c = lists _ _ _ _ _ _ _ (refused_list c.args.c c.args.image.now _ c.args.first _ _ c.in-Err.ensures.number)
