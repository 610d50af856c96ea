-- `parsing::naming::read_entry` meets its contract. Assumes nothing.
use Rattle.parsing.proofs.naming.Laws.{entry_alone, entry_unnamed, entry_unvalued, entry_gives}
use Rattle.parsing.proofs.naming.read_entry.Goals as goal

pub returns-in_err-name : goal.returns-in_err-name
returns-in_err-name c = rw c.from_residual.ensures (entry_alone _ c.in_err-name.ensures)

pub returns-in_err-place : goal.returns-in_err-place
returns-in_err-place c = rw c.from_residual-in_err-place.ensures (entry_unnamed _ _ c.in_ok-name.ensures.0 c.in_err-place.ensures)

pub returns-in_err-number : goal.returns-in_err-number
returns-in_err-number c = rw c.from_residual-in_err-number.ensures (entry_unvalued _ _ c.in_ok-name.ensures.0 _ c.in_ok-name.ensures.1 c.in_err-number.ensures)

pub returns : goal.returns
returns c = entry_gives _ _ c.in_ok-name.ensures.0 _ c.in_ok-name.ensures.1 _ _ c.in_ok-place.ensures c.in_ok-number.ensures
