-- `words::rows::port_row` meets its contract. Assumes nothing.
use native.Mathlib.Omega.{arith}
use Prim.Native.Nat.{◌/◌, ◌%◌}
use Rattle.words.proofs.Lists.{port_codes}
use Rattle.words.proofs.rows.port_row.Goals as goal

pub returns : goal.returns
returns c = port_codes (c.args.f / 32768 % 2) (omega arith)
