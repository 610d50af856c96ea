-- `yam_c::flat::instruction_in` meets its contract. Assumes nothing.
use Rattle.yam_c.proofs.flat.instruction_in.Goals as goal

pub returns : goal.returns
returns c = rw (c.cell.ensures, c.cell-2.ensures, c.cell-3.ensures, c.cell-4.ensures, c.cell-5.ensures, c.cell-6.ensures)
