-- `yam_list::load_file` meets its contract. Assumes nothing.
use Rattle.yam_list.proofs.Loads.{opened_opens}
use borrow.Author.Rules.{rules}
use Rattle.yam_list.proofs.load_file.Goals as goal

pub returns : goal.returns
returns c = opened_opens c.args.file.now c.args.image.now _ _ (search rules) c.open.ensures
