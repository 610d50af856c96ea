-- `certificate::judging::rule_4` meets its contract. Assumes nothing.
use Prim.Native.Nat.{ℕ}
use borrow.Author.Rules.{rules}
use Rattle.rules.specs.Successors.{Successor as Going}
use Rattle.laws.specs.Test.{Test, less, yes?, ◌and◌}
use Rattle.rules.specs.Marks.{used}
use Rattle.certificate.proofs.successors.Laws.{gives, answers}
use Rattle.certificate.proofs.judging.rule_4.Goals as goal

pub returns : goal.returns
returns c mark f a t q =
    let p : Going → ℕ → Test = λ s y. less s.address c.args.size and yes? (used y) in
    answers mark f a t _ _ p q (c.all.ensures p (gives _ p _ (λ s b h. search rules)) (gives _ p _ (λ s b h. search rules)))
