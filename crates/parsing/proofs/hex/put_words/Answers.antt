-- `parsing::hex::put_words` meets its contract. Assumes nothing.
use Rattle.std.proofs.Common.{rules, ◌≡◌, length}
use borrow.Author.Tests.{tests}
use Rattle.parsing.proofs.hex.Laws.{passed_none, passed_all}
use Rattle.parsing.proofs.hex.put_words.Goals as goal

pub loop-rest-init : goal.loop-rest-init
loop-rest-init c = passed_none _ _

pub returns : goal.returns
returns c =
    let none : length c.loop-rest.rest.now ≡ 0 = search (rules, tests) in
    passed_all _ _ _ _ _ c.loop-rest.invariant none
