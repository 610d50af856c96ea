-- `certificate::judging::rule_5` meets its contract. Assumes nothing.
use Prim.Native.Nat.{ℕ}
use borrow.Author.Rules.{rules}
use Rattle.laws.specs.Choice.{pick}
use Rattle.rules.specs.Successors.{Successor as Going}
use Rattle.laws.specs.Test.{Test, same}
use Rattle.rules.specs.Marks.{sub_of}
use Rattle.certificate.proofs.successors.Laws.{gives, answers}
use Rattle.certificate.proofs.judging.rule_5.Goals as goal

pub returns : goal.returns
unfolding pick
returns c mark f a t q =
    let p : Going → ℕ → Test = λ s y. same (sub_of y) (pick s.by_call 1 (sub_of c.args.x.byte)) in
    rw (answers mark f a t _ _ p q (c.all.ensures p (gives _ p _ (λ s b h. search rules)) (gives _ p _ (λ s b h. search rules))), c.sub.ensures)
