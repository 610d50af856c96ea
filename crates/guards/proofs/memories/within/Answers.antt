-- `guards::memories::within` meets its contract. Assumes nothing.
use Rattle.std.proofs.Common.{◌∙◌, rules}
use Rattle.std.proofs.lemmas.Iterator.{YieldsList-from_slice}
use Rattle.std.proofs.lemmas.Iterator.Search.{all_from_yields_List}
use lib.Dec.{leb}
use Rattle.guards.proofs.memories.Laws.{all_most}
use Rattle.guards.proofs.memories.within.Goals as goal

pub returns : goal.returns
returns c = all_from_yields_List (λ x. leb x c.args.most) _ _ _ c.all.ensures.ran (YieldsList-from_slice c.args.xs.now cc) (λ x b q k. search rules) ∙ all_most c.args.most c.args.xs.now
