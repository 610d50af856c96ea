-- `printing::put_refusal` meets its contract. Assumes nothing.
use Rattle.printing.proofs.Puts.{puts_then}
use Rattle.printing.specs.Numerals.{refusal_line}
use Rattle.printing.proofs.put_refusal.Goals as goal

pub returns : goal.returns
unfolding refusal_line
returns c = puts_then c.put_bytes-i.ensures (puts_then c.put_decimal-j.ensures c.put_bytes.ensures)
