-- `parsing::numbers::number_of` meets its contract. Assumes nothing.
use Rattle.std.proofs.Common.{◌∙◌}
use Rattle.parsing.proofs.numbers.Laws.{none_in, no_digits, the_number, as_option}
use Rattle.parsing.proofs.numbers.number_of.Goals as goal

pub returns-then-is_empty-most : goal.returns-then-is_empty-most
returns-then-is_empty-most c = none_in _ _ _ _ c.is_empty.ensures c.if-is_empty-most.true

pub returns-in_err-value : goal.returns-in_err-value
returns-in_err-value c = c.from_residual.ensures ∙ no_digits _ _ _ _ c.is_empty.ensures c.if-is_empty-most.false c.in_err-value.ensures

pub returns : goal.returns
returns c = the_number _ _ _ _ c.is_empty.ensures c.if-is_empty-most.false _ _ c.in_ok-value.ensures (as_option _ _ _ c.try_from.ensures _ c.ok.ensures.value)
