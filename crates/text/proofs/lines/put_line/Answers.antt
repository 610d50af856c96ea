-- `text::lines::put_line` meets its contract. Assumes nothing.
use Rattle.text.specs.Lines.{line_of}
use Rattle.text.proofs.Written.{then}
use Rattle.text.proofs.lines.put_line.Goals as goal

pub returns : goal.returns
unfolding line_of
returns c = then c.put_hex-i.ensures (then c.put_bytes-j.ensures (then c.put_hex-k.ensures (then c.put_bytes-l.ensures (then c.put-m.ensures c.put_bytes.ensures))))
