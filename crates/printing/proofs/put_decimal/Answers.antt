-- `printing::put_decimal` meets its contract. Assumes nothing.
use Rattle.printing.proofs.Numerals.{decimal_is}
use Rattle.printing.proofs.Puts.{put_as}
use Rattle.printing.proofs.put_decimal.Goals as goal

pub returns : goal.returns
returns c = put_as (decimal_is c.args.n _ _ c.ranges.n.fits c.decimal-k.ensures.len c.decimal-k.ensures.digits) c.put_bytes.ensures
