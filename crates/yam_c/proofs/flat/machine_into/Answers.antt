-- `yam_c::flat::machine_into` meets its contract. Assumes nothing.
-- `yam_c::flat::machine_into` meets its contract. Assumes nothing.
use native.Mathlib.Omega.{arith}
use lib.ListN.{length}
use mathlib.Core.Path.{◌≡◌}
use Rattle.yam_c.proofs.Machines.{whole}
use borrow.Author.Rules.{rules}
use Rattle.yam_c.proofs.flat.machine_into.Goals as goal

pub store-requires-2 : goal.store-requires-2
store-requires-2 c = let h : length c.args.m.stack ≡ 63 = search rules in (omega arith, omega (arith, h))

pub returns : goal.returns
returns c = let h : length c.args.m.stack ≡ 63 = search rules in whole _ _ _ _ _ c.args.m.core c.args.m.stack h (rw c.core_words-core.ensures at c.store.ensures) c.store-2.ensures c.put.ensures c.store-3.ensures
