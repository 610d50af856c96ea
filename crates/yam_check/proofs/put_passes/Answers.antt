-- `yam_check::put_passes` meets its contract. Assumes nothing.
use Rattle.printing.proofs.Printers.{prints_then}
use Rattle.yam_check.specs.Verdict.{passes_line}
use Rattle.yam_check.proofs.put_passes.Goals as goal

pub returns : goal.returns
unfolding passes_line
returns c = prints_then c.bytes.ensures (prints_then c.decimal.ensures c.bytes-2.ensures)
