-- `parsing::naming::generics_of` meets its contract. Assumes nothing.
use Rattle.std.proofs.Common.{refl}
use Rattle.std.proofs.lemmas.Result.{err_from_is_err_and}
use Rattle.parsing.proofs.FromOne.{entry_from_one}
use Rattle.parsing.proofs.naming.Laws.{answers_none, answers_all}
use Rattle.parsing.proofs.naming.generics_of.Goals as goal

pub returns-in_err-put_values : goal.returns-in_err-put_values
returns-in_err-put_values c =
    let p = err_from_is_err_and c.from_residual.result c.from_residual.ensures.1 in
    record { answer = rw (p.1, p.2) (answers_none _ _ c.put_values.new.values _ refl c.in_err-put_values.ensures _ refl); counted = entry_from_one _ }

pub returns : goal.returns
returns c = record { answer = answers_all _ _ c.put_values.new.values _ refl c.in_ok-put_values.ensures _ _ refl c.config_of.ensures; counted = entry_from_one _ }
