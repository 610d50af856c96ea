-- `parsing::entries::halves` meets its contract. Assumes nothing.
use Rattle.std.proofs.Common.{rules, eqb}
use borrow.Author.Tests.{tests}
use Rattle.std.specs.Prelude.{Some, None}
use Rattle.std.proofs.lemmas.Iterator.{YieldsList-from_slice}
use Rattle.std.proofs.lemmas.Iterator.Search.{position_from_yields_List}
use Rattle.parsing.specs.Entries.{equals}
use Rattle.parsing.proofs.entries.Laws.{no_equals, at_equals}
use Rattle.parsing.proofs.entries.halves.Goals as goal

pub returns-in_err-n : goal.returns-in_err-n
returns-in_err-n c =
    rw c.from_residual.ensures
    (no_equals _
    (position_from_yields_List (λ b. eqb b equals) _ _ None c.in_err-n.ensures.ran (YieldsList-from_slice c.args.entry.now c.iter.ensures.rest)
    (λ x b q k. search (rules, tests))))

pub returns : goal.returns
returns c =
    at_equals _ _
    (position_from_yields_List (λ b. eqb b equals) _ _ (Some c.in_ok-n.n) c.in_ok-n.ensures.ran (YieldsList-from_slice c.args.entry.now c.iter.ensures.rest)
    (λ x b q k. search (rules, tests)))
