-- `parsing::decimals::value_of` meets its contract. Assumes nothing.
use Rattle.std.proofs.Common.{◌∙◌}
use Rattle.parsing.proofs.decimals.Laws.{value_is}
use Rattle.parsing.proofs.decimals.value_of.Goals as goal

pub returns : goal.returns
returns c = c.number_of.ensures ∙ value_is _
