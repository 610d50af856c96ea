-- `certificate::settling::quiet` meets its contract. Assumes nothing.
use native.Mathlib.Omega.{arith}
use Rattle.certificate.proofs.settling.Laws.{quiet_row}
use Rattle.certificate.proofs.settling.quiet.Goals as goal

pub returns : goal.returns
returns c = λ h t. quiet_row c.args.sheet.now.reader.now.config c.args.sheet.now.image.now c.args.next _ _ _ (omega arith) c.word.ensures c.row.ensures c.facts-f.ensures h
