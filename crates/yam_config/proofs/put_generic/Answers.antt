-- `yam_config::put_generic` meets its contract. Assumes nothing.
use Rattle.printing.proofs.Printers.{prints_then}
use Rattle.yam_config.specs.Generics.{generic_line}
use Rattle.yam_config.proofs.put_generic.Goals as goal

pub returns : goal.returns
unfolding generic_line
returns c = rw (← c.from.ensures) (prints_then c.bytes.ensures (prints_then c.bytes-2.ensures (prints_then c.decimal.ensures c.bytes-3.ensures)))
