-- `certificate::judging::rule_7` meets its contract. Assumes nothing.
use mathlib.Core.Path.{◌≡◌, ap, ◌∙◌}
use mathlib.Core.Bool.{◌&&◌, ◌||◌, and_assoc}
use lib.Dec.{eqb}
use Prim.Native.Nat.{ℕ}
use borrow.Author.Rules.{rules}
use Rattle.rules.specs.Successors.{Successor as Going}
use Rattle.rules.specs.Successors.{successors, for_each}
use Rattle.state.specs.Stops.{specials}
use Rattle.laws.specs.Test.{Test, test, imp, member, same}
use Rattle.rules.specs.Marks.{mode_of}
use Rattle.rules.specs.Rules.{mode_after}
use Rattle.certificate.proofs.successors.Laws.{gives, answers}
use Rattle.certificate.proofs.settling.Laws.{mode_after_lem}
use Rattle.certificate.proofs.judging.rule_7.Goals as goal

pub returns : goal.returns
returns c mark f a t q =
    let p : Going → ℕ → Test = λ s y. same (mode_of y) c.mode-mode.result in
    let e : c.mode-mode.result ≡ mode_after c.args.f (mode_of c.args.x.byte) = c.mode-mode.ensures ∙ ap mode_of c.after.ensures ∙ mode_after_lem c.args.f c.args.x.byte in
    rw (← e, answers mark f a t _ _ p q (c.all.ensures p (gives _ p _ (λ s b h. search rules)) (gives _ p _ (λ s b h. search rules))), c.mode.ensures, c.mode-2.ensures, c.stays_special.ensures)
    (and_assoc (imp c.args.f.enters (eqb (mode_of c.args.x.byte) 0)) (imp (eqb (mode_of c.args.x.byte) 1) (c.args.f.leaves || c.args.f.reveals && member c.args.source specials)) (test (for_each mark (successors f a t) p)))
