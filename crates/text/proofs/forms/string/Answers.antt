-- `text::forms::string` meets its contract. Assumes nothing.
use Rattle.std.proofs.Common.{rules}
use Rattle.text.proofs.forms.Laws.{string_is, string_short}
use Rattle.text.proofs.forms.string.Goals as goal

pub returns : goal.returns
returns c = (search (rules, string_is), search (rules, string_short))
