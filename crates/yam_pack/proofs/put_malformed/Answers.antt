-- `yam_pack::put_malformed` meets its contract. Assumes nothing.
use Rattle.printing.proofs.Puts.{puts_then}
use Rattle.yam_pack.specs.Packing.{malformed_line}
use Rattle.yam_pack.proofs.put_malformed.Goals as goal

pub returns : goal.returns
unfolding malformed_line
returns c = puts_then c.put_bytes-i.ensures (puts_then c.put_decimal-j.ensures c.put_bytes.ensures)
