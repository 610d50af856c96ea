-- `report::fields::put_changes` meets its contract. Assumes nothing.
use Rattle.printing.proofs.Printers.{prints_as}
use Rattle.report.proofs.Tables.{changes_as}
use Rattle.report.proofs.fields.put_changes.Goals as goal

pub returns : goal.returns
returns c = prints_as (changes_as _ _ _ _ _ c.fields.ensures c.fields-2.ensures) c.put_value_changes.ensures
