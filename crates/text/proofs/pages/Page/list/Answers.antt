-- `text::pages::Page::list` meets its contract. Assumes nothing.
use Rattle.text.proofs.pages.Laws.{listed_page}
use Rattle.text.proofs.pages.Page.list.Goals as goal

pub returns : goal.returns
returns c = listed_page _ _ c.args.self _ _ c.list-r.ensures.answer
