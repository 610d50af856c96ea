-- `yam_c::flat::config_in` meets its contract. Assumes nothing.
use Rattle.yam_c.proofs.flat.config_in.Goals as goal

pub returns : goal.returns
returns c = rw (c.cell.ensures, c.cell-2.ensures, c.cell-3.ensures, c.cell-4.ensures, c.cell-5.ensures, c.cell-6.ensures, c.cell-7.ensures, c.cell-8.ensures, c.cell-9.ensures, c.cell-10.ensures, c.cell-11.ensures, c.cell-12.ensures, c.cell-13.ensures, c.cell-14.ensures, c.cell-15.ensures, c.cell-16.ensures, c.cell-17.ensures, c.cell-18.ensures, c.cell-19.ensures)
