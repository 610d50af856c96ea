-- `yam_c::flat::core_words` meets its contract. Assumes nothing.
use Rattle.yam_c.proofs.flat.core_words.Goals as goal

pub returns : goal.returns
returns c = rw (c.low.ensures, c.low-2.ensures, c.low-3.ensures, c.low-4.ensures, c.low-5.ensures, c.low-6.ensures, c.low-7.ensures, c.low-8.ensures, c.low-9.ensures, c.low-10.ensures, c.low-11.ensures, c.low-12.ensures, c.low-13.ensures, c.low-14.ensures, c.low-15.ensures, c.high.ensures, c.high-2.ensures)
