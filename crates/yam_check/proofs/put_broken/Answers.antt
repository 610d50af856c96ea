-- `yam_check::put_broken` meets its contract. Assumes nothing.
use Rattle.printing.proofs.Printers.{prints_then}
use Rattle.yam_check.specs.Verdict.{broken_lines}
use Rattle.yam_check.proofs.put_broken.Goals as goal

pub returns : goal.returns
unfolding broken_lines
returns c = prints_then c.bytes.ensures (prints_then c.hex.ensures (prints_then c.bytes-2.ensures (prints_then c.decimal.ensures (prints_then c.bytes-3.ensures (prints_then c.entry.ensures c.bytes-4.ensures)))))
