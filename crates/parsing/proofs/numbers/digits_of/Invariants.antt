-- `parsing::numbers::digits_of` meets its contract. Assumes nothing.
use Rattle.std.proofs.Common.{◌≡◌, ◌≤◌, drop}
use Rattle.parsing.specs.Decimals.{answered, limit}
use Rattle.parsing.specs.Numbers.{digits_from}
use Rattle.parsing.proofs.numbers.digits_of.Given as goal

abbrev pub invariant-loop-b : goal.invariant-loop-b
invariant-loop-b l = (l.value ≤ limit) × (answered (digits_from l.base l.value (drop l.b-index l.text)) ≡ answered (digits_from l.base 0 l.text))
