-- `certificate::settling::follows` meets its contract. Assumes nothing.
use mathlib.Core.Path.{sym, ◌∙◌}
use native.Mathlib.Omega.{arith}
use Rattle.certificate.proofs.settling.Laws.{used_below, follows_call, follows_next}
use Rattle.certificate.proofs.settling.follows.Goals as goal

pub returns-then-call : goal.returns-then-call
returns-then-call c = λ h. rw c.if-call.true (follows_call c.args.e.byte c.args.y.byte (used_below c.args.e.byte (omega arith) (sym c.is_used.ensures ∙ c.if-not-is_used.false)) (rw (c.flags.ensures, c.mode.ensures, c.level.ensures, c.level-then-call.ensures) at h))

pub returns-else-call : goal.returns-else-call
returns-else-call c = λ h. rw c.if-call.false (follows_next c.args.e.byte c.args.y.byte (used_below c.args.e.byte (omega arith) (sym c.is_used.ensures ∙ c.if-not-is_used.false)) (rw (c.flags-else-call.ensures, c.flags-else-call-2.ensures) at h))
