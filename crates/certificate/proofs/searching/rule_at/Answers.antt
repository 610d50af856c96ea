-- `certificate::searching::rule_at` meets its contract. Assumes nothing.
use mathlib.Core.Path.{sym, ap, ◌∙◌}
use Rattle.certificate.specs.declared.marks.Mark.{Mark}
use Rattle.certificate.proofs.judging.Laws.{unused_address}
use Rattle.certificate.proofs.searching.rule_at.Goals as goal

pub returns-then-not-is_used : goal.returns-then-not-is_used
returns-then-not-is_used c = unused_address c.args.sheet.now.reader.now.config c.args.sheet.now.image.now c.args.sheet.now.certificate.now c.args.a c.mark-x.result.byte _ (ap (λ (m : Mark). m.byte) c.mark-x.ensures) (sym c.is_used.ensures ∙ c.if-not-is_used.true) c.unused_rule.ensures
