-- `certificate::judging::rule_6` meets its contract. Assumes nothing.
use Prim.Native.Nat.{ℕ}
use borrow.Author.Rules.{rules}
use Rattle.rules.specs.Successors.{Successor as Going}
use Rattle.laws.specs.Test.{Test, less, most, if?, ◌and◌}
use Rattle.rules.specs.Marks.{level_of}
use Rattle.certificate.proofs.successors.Laws.{gives, answers}
use Rattle.certificate.proofs.judging.rule_6.Goals as goal

pub returns : goal.returns
returns c mark f a t q =
    let p : Going → ℕ → Test = λ s y. most (level_of y) (level_of c.args.x.byte) and if? s.by_call (less (level_of y) (level_of c.args.x.byte)) in
    answers mark f a t _ _ p q (c.all.ensures p (gives _ p _ (λ s b h. search rules)) (gives _ p _ (λ s b h. search rules)))
