-- `report::cells::put_cell_change` meets its contract. Assumes nothing.
use mathlib.Core.List.{◌++◌}
use Rattle.printing.proofs.Printers.{prints_then}
use Rattle.syntax.specs.Digits.{hex}
use Rattle.report.proofs.Texts.{unchanged, changed_cell}
use Rattle.report.proofs.cells.put_cell_change.Goals as goal

pub returns-then-x-y : goal.returns-then-x-y
returns-then-x-y c = unchanged _ (c.args.mark.now ++ hex c.args.d c.args.i) (hex c.args.w c.args.y) _ _ c.if-x-y.true

pub returns : goal.returns
returns c = changed_cell c.args.mark.now (hex c.args.d c.args.i) (hex c.args.w c.args.y) _ _ c.if-x-y.false (prints_then c.bytes.ensures (prints_then c.bytes-2.ensures (prints_then c.hex.ensures (prints_then c.bytes-3.ensures c.hex-2.ensures))))
