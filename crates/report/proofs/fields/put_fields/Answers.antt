-- `report::fields::put_fields` meets its contract. Assumes nothing.
use Rattle.printing.proofs.Printers.{prints_as}
use Rattle.report.proofs.Tables.{lines_as}
use Rattle.report.proofs.fields.put_fields.Goals as goal

pub returns : goal.returns
returns c = prints_as (lines_as _ _ _ c.fields.ensures) c.put_lines.ensures
