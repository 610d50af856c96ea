-- `printing::put_entry` meets its contract. Assumes nothing.
use Rattle.printing.proofs.Puts.{puts_then}
use Rattle.printing.proofs.Entries.{entry_is_line, entry_put}
use Rattle.printing.proofs.put_entry.Goals as goal

pub returns : goal.returns
returns c = (entry_put c.args.c c.args.image.now c.args.address _ c.word_at-w.ensures (puts_then c.put_hex-i.ensures (puts_then c.put_bytes-j.ensures (puts_then c.put_hex-k.ensures (puts_then c.put_bytes-l.ensures c.put_shown.ensures)))), entry_is_line)
