-- `parsing::naming::config_of` meets its contract. Assumes nothing.
use Rattle.std.proofs.Common.{refl, arith}
use Rattle.parsing.specs.Generics.{generics, defaults}
use Rattle.parsing.specs.Claims.{values_in}
use Rattle.parsing.proofs.naming.Laws.{over_default, configured}
use Rattle.parsing.proofs.naming.config_of.Goals as goal

pub returns : goal.returns
unfolding defaults generics
returns c = configured (values_in c.args.v.now) _
    (over_default _ c.told-v 17 32 _ (omega arith) refl c.unwrap_or.ensures)
    (over_default _ c.told-v 0 2048 _ (omega arith) refl c.unwrap_or-2.ensures)
    (over_default _ c.told-v 1 32 _ (omega arith) refl c.unwrap_or-3.ensures)
    (over_default _ c.told-v 2 32 _ (omega arith) refl c.unwrap_or-4.ensures)
    (over_default _ c.told-v 3 32 _ (omega arith) refl c.unwrap_or-5.ensures)
    (over_default _ c.told-v 4 16 _ (omega arith) refl c.unwrap_or-6.ensures)
    (over_default _ c.told-v 5 32 _ (omega arith) refl c.unwrap_or-7.ensures)
    (over_default _ c.told-v 6 0 _ (omega arith) refl c.unwrap_or-8.ensures)
    (over_default _ c.told-v 7 0 _ (omega arith) refl c.unwrap_or-9.ensures)
    (over_default _ c.told-v 8 0 _ (omega arith) refl c.unwrap_or-10.ensures)
    (over_default _ c.told-v 9 0 _ (omega arith) refl c.unwrap_or-11.ensures)
    (over_default _ c.told-v 10 0 _ (omega arith) refl c.unwrap_or-12.ensures)
    (over_default _ c.told-v 11 0 _ (omega arith) refl c.unwrap_or-13.ensures)
    (over_default _ c.told-v 12 0 _ (omega arith) refl c.unwrap_or-14.ensures)
    (over_default _ c.told-v 13 0 _ (omega arith) refl c.unwrap_or-15.ensures)
    (over_default _ c.told-v 14 0 _ (omega arith) refl c.unwrap_or-16.ensures)
    (over_default _ c.told-v 15 0 _ (omega arith) refl c.unwrap_or-17.ensures)
    (over_default _ c.told-v 16 0 _ (omega arith) refl c.unwrap_or-18.ensures)
    (over_default _ c.told-v 18 0 _ (omega arith) refl c.unwrap_or-19.ensures)
