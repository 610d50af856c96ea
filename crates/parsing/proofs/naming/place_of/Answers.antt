-- `parsing::naming::place_of` meets its contract. Assumes nothing.
use Rattle.std.proofs.Common.{rules, ap, refl}
use borrow.Author.Tests.{tests}
use Rattle.std.proofs.lemmas.Iterator.{YieldsList-from_slice}
use Rattle.std.proofs.lemmas.Iterator.Search.{position_from_yields_List}
use Rattle.parsing.specs.Generics.{names, generics}
use Rattle.parsing.proofs.naming.Laws.{named, texts, found}
use Rattle.parsing.proofs.naming.place_of.Goals as goal

pub returns : goal.returns
unfolding names generics
returns c =
    found c.args.name.now c.iter.result.rest.now (ap texts c.iter.ensures.rest) _
    (position_from_yields_List (named c.args.name.now) _ _ c.position.result c.position.ensures.ran (YieldsList-from_slice c.iter.result.rest.now refl)
    (λ x b q k. search (rules, tests)))
