-- `certificate::settling::settled` meets its contract. Assumes nothing.
use mathlib.Core.Path.{sym, ◌∙◌}
use native.Mathlib.Omega.{arith}
use Rattle.laws.specs.Choice.{true_is}
use Rattle.certificate.proofs.settling.Laws.{settles}
use Rattle.certificate.proofs.settling.settled.Goals as goal

pub returns : goal.returns
returns c = λ h. settles c.args.sheet.now.reader.now.config c.args.sheet.now.image.now c.args.sheet.now.certificate.now c.args.a _ _ c.args.x.byte _ c.args.sheet.now.limit _ c.args.sheet.now.reader.now.is_lawful (omega arith) c.word-w.ensures c.row-n.ensures (sym c.below_limits.ensures ∙ c.if-not-below_limits.false) c.facts-f.ensures c.args.sheet.now.sized c.requires c.after-e.ensures c.args.sheet.now.limited c.if-a-eq0.false (omega (arith, c.level.ensures, c.from.ensures, c.if-sheet-from.false)) c.if-f.false (c.allowed.ensures (true_is c.allowed.result c.if-not-allowed.false)) (λ u. c.quiet.ensures (true_is c.quiet.result c.if-not-quiet.false) u) (λ u. c.arrives.ensures (true_is c.arrives.result c.if-not-arrives.false) u) (c.goes_on.ensures h).0 (c.goes_on.ensures h).1
