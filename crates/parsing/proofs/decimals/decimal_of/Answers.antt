-- `parsing::decimals::decimal_of` meets its contract. Assumes nothing.
use Rattle.std.proofs.Common.{sym, ◌∙◌}
use Rattle.parsing.proofs.decimals.Laws.{empty_none, digits_all}
use Rattle.parsing.proofs.decimals.decimal_of.Goals as goal

pub returns-then-is_empty : goal.returns-then-is_empty
returns-then-is_empty c = empty_none _ (sym c.is_empty.ensures ∙ c.if-is_empty.true)

pub returns : goal.returns
returns c = c.digits_of.ensures ∙ digits_all _ (sym c.is_empty.ensures ∙ c.if-is_empty.false)
