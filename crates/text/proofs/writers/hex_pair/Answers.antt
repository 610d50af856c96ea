-- `text::writers::hex_pair` meets its contract. Assumes nothing.
use Rattle.text.proofs.Spelled.{pair_at}
use Rattle.text.proofs.writers.hex_pair.Goals as goal

pub returns : goal.returns
returns c = pair_at c.args.b c.ranges.b.fits
