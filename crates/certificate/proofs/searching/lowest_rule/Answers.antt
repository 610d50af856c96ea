-- `certificate::searching::lowest_rule` meets its contract. Assumes nothing.
use mathlib.Core.Path.{sym, ap, ◌∙◌}
use Rattle.words.specs.Answers.{reading_of}
use Rattle.words.specs.Words.{read_lawful}
use Rattle.rules.specs.Marks.{mark_at}
use Rattle.certificate.specs.declared.marks.Mark.{Mark}
use Rattle.certificate.proofs.judging.Laws.{breaks_1, unused_keeps, breaks_2, unread_3, breaks_3, breaks_4, breaks_5, breaks_6, breaks_7, breaks_8, keeps}
use Rattle.certificate.proofs.searching.lowest_rule.Goals as goal

pub returns-then-not-rule_1 : goal.returns-then-not-rule_1
returns-then-not-rule_1 c = breaks_1 c.args.sheet.now.reader.now.config c.args.sheet.now.image.now c.args.sheet.now.certificate.now c.args.a c.mark-x.result.byte c.args.sheet.now.limit (ap (λ (m : Mark). m.byte) c.mark-x.ensures) c.args.sheet.now.limited c.rule_1.result c.rule_1.ensures c.if-not-rule_1.true

pub returns-then-not-is_used : goal.returns-then-not-is_used
returns-then-not-is_used c = unused_keeps c.args.sheet.now.reader.now.config c.args.sheet.now.image.now c.args.sheet.now.certificate.now c.args.a c.mark-x.result.byte c.args.sheet.now.limit (ap (λ (m : Mark). m.byte) c.mark-x.ensures) c.args.sheet.now.limited c.rule_1.result c.rule_1.ensures c.if-not-rule_1.false (sym c.is_used.ensures ∙ c.if-not-is_used.true)

pub returns-then-not-rule_2 : goal.returns-then-not-rule_2
returns-then-not-rule_2 c = breaks_2 c.args.sheet.now.reader.now.config c.args.sheet.now.image.now c.args.sheet.now.certificate.now c.args.a c.mark-x.result.byte c.args.sheet.now.limit (ap (λ (m : Mark). m.byte) c.mark-x.ensures) c.args.sheet.now.limited c.rule_1.result c.rule_1.ensures c.if-not-rule_1.false (sym c.is_used.ensures ∙ c.if-not-is_used.false) c.rule_2.result c.rule_2.ensures c.if-not-rule_2.true

pub returns-in_default : goal.returns-in_default
returns-in_default c = unread_3 c.args.sheet.now.reader.now.config c.args.sheet.now.image.now c.args.sheet.now.certificate.now c.args.a c.mark-x.result.byte c.args.sheet.now.limit (ap (λ (m : Mark). m.byte) c.mark-x.ensures) c.args.sheet.now.limited c.rule_1.result c.rule_1.ensures c.if-not-rule_1.false (sym c.is_used.ensures ∙ c.if-not-is_used.false) c.rule_2.result c.rule_2.ensures c.if-not-rule_2.false c.in_default.field-0 (sym (ap reading_of c.in_default.is) ∙ c.read.ensures ∙ ap (read_lawful c.args.sheet.now.reader.now.config) c.word.ensures)

pub returns-then-f : goal.returns-then-f
returns-then-f c = breaks_3 c.args.sheet.now.reader.now.config c.args.sheet.now.image.now c.args.sheet.now.certificate.now c.args.a c.mark-x.result.byte c.args.sheet.now.limit (ap (λ (m : Mark). m.byte) c.mark-x.ensures) c.args.sheet.now.limited c.rule_1.result c.rule_1.ensures c.if-not-rule_1.false (sym c.is_used.ensures ∙ c.if-not-is_used.false) c.rule_2.result c.rule_2.ensures c.if-not-rule_2.false c.in-Ok.i (sym (ap reading_of c.in-Ok.is) ∙ c.read.ensures ∙ ap (read_lawful c.args.sheet.now.reader.now.config) c.word.ensures) c.facts-f.result c.facts-f.ensures c.if-f.true

pub returns-then-not-rule_4 : goal.returns-then-not-rule_4
returns-then-not-rule_4 c = breaks_4 c.args.sheet.now.reader.now.config c.args.sheet.now.image.now c.args.sheet.now.certificate.now c.args.a c.mark-x.result.byte c.args.sheet.now.limit (ap (λ (m : Mark). m.byte) c.mark-x.ensures) c.args.sheet.now.limited c.rule_1.result c.rule_1.ensures c.if-not-rule_1.false (sym c.is_used.ensures ∙ c.if-not-is_used.false) c.rule_2.result c.rule_2.ensures c.if-not-rule_2.false c.in-Ok.i (sym (ap reading_of c.in-Ok.is) ∙ c.read.ensures ∙ ap (read_lawful c.args.sheet.now.reader.now.config) c.word.ensures) c.facts-f.result c.facts-f.ensures c.if-f.false c.rule_4.result (c.rule_4.ensures (mark_at c.args.sheet.now.certificate.now) c.facts-f.result c.args.a c.in-Ok.i.value c.of-to.ensures) c.if-not-rule_4.true

pub returns-then-not-rule_5 : goal.returns-then-not-rule_5
returns-then-not-rule_5 c = breaks_5 c.args.sheet.now.reader.now.config c.args.sheet.now.image.now c.args.sheet.now.certificate.now c.args.a c.mark-x.result.byte c.args.sheet.now.limit (ap (λ (m : Mark). m.byte) c.mark-x.ensures) c.args.sheet.now.limited c.rule_1.result c.rule_1.ensures c.if-not-rule_1.false (sym c.is_used.ensures ∙ c.if-not-is_used.false) c.rule_2.result c.rule_2.ensures c.if-not-rule_2.false c.in-Ok.i (sym (ap reading_of c.in-Ok.is) ∙ c.read.ensures ∙ ap (read_lawful c.args.sheet.now.reader.now.config) c.word.ensures) c.facts-f.result c.facts-f.ensures c.if-f.false c.rule_4.result (c.rule_4.ensures (mark_at c.args.sheet.now.certificate.now) c.facts-f.result c.args.a c.in-Ok.i.value c.of-to.ensures) c.if-not-rule_4.false c.rule_5.result (c.rule_5.ensures (mark_at c.args.sheet.now.certificate.now) c.facts-f.result c.args.a c.in-Ok.i.value c.of-to.ensures) c.if-not-rule_5.true

pub returns-then-not-rule_6 : goal.returns-then-not-rule_6
returns-then-not-rule_6 c = breaks_6 c.args.sheet.now.reader.now.config c.args.sheet.now.image.now c.args.sheet.now.certificate.now c.args.a c.mark-x.result.byte c.args.sheet.now.limit (ap (λ (m : Mark). m.byte) c.mark-x.ensures) c.args.sheet.now.limited c.rule_1.result c.rule_1.ensures c.if-not-rule_1.false (sym c.is_used.ensures ∙ c.if-not-is_used.false) c.rule_2.result c.rule_2.ensures c.if-not-rule_2.false c.in-Ok.i (sym (ap reading_of c.in-Ok.is) ∙ c.read.ensures ∙ ap (read_lawful c.args.sheet.now.reader.now.config) c.word.ensures) c.facts-f.result c.facts-f.ensures c.if-f.false c.rule_4.result (c.rule_4.ensures (mark_at c.args.sheet.now.certificate.now) c.facts-f.result c.args.a c.in-Ok.i.value c.of-to.ensures) c.if-not-rule_4.false c.rule_5.result (c.rule_5.ensures (mark_at c.args.sheet.now.certificate.now) c.facts-f.result c.args.a c.in-Ok.i.value c.of-to.ensures) c.if-not-rule_5.false c.rule_6.result (c.rule_6.ensures (mark_at c.args.sheet.now.certificate.now) c.facts-f.result c.args.a c.in-Ok.i.value c.of-to.ensures) c.if-not-rule_6.true

pub returns-then-not-rule_7 : goal.returns-then-not-rule_7
returns-then-not-rule_7 c = breaks_7 c.args.sheet.now.reader.now.config c.args.sheet.now.image.now c.args.sheet.now.certificate.now c.args.a c.mark-x.result.byte c.args.sheet.now.limit (ap (λ (m : Mark). m.byte) c.mark-x.ensures) c.args.sheet.now.limited c.rule_1.result c.rule_1.ensures c.if-not-rule_1.false (sym c.is_used.ensures ∙ c.if-not-is_used.false) c.rule_2.result c.rule_2.ensures c.if-not-rule_2.false c.in-Ok.i (sym (ap reading_of c.in-Ok.is) ∙ c.read.ensures ∙ ap (read_lawful c.args.sheet.now.reader.now.config) c.word.ensures) c.facts-f.result c.facts-f.ensures c.if-f.false c.rule_4.result (c.rule_4.ensures (mark_at c.args.sheet.now.certificate.now) c.facts-f.result c.args.a c.in-Ok.i.value c.of-to.ensures) c.if-not-rule_4.false c.rule_5.result (c.rule_5.ensures (mark_at c.args.sheet.now.certificate.now) c.facts-f.result c.args.a c.in-Ok.i.value c.of-to.ensures) c.if-not-rule_5.false c.rule_6.result (c.rule_6.ensures (mark_at c.args.sheet.now.certificate.now) c.facts-f.result c.args.a c.in-Ok.i.value c.of-to.ensures) c.if-not-rule_6.false c.rule_7.result (c.rule_7.ensures (mark_at c.args.sheet.now.certificate.now) c.facts-f.result c.args.a c.in-Ok.i.value c.of-to.ensures) c.if-not-rule_7.true

pub returns-then-not-rule_8 : goal.returns-then-not-rule_8
returns-then-not-rule_8 c = breaks_8 c.args.sheet.now.reader.now.config c.args.sheet.now.image.now c.args.sheet.now.certificate.now c.args.a c.mark-x.result.byte c.args.sheet.now.limit (ap (λ (m : Mark). m.byte) c.mark-x.ensures) c.args.sheet.now.limited c.rule_1.result c.rule_1.ensures c.if-not-rule_1.false (sym c.is_used.ensures ∙ c.if-not-is_used.false) c.rule_2.result c.rule_2.ensures c.if-not-rule_2.false c.in-Ok.i (sym (ap reading_of c.in-Ok.is) ∙ c.read.ensures ∙ ap (read_lawful c.args.sheet.now.reader.now.config) c.word.ensures) c.facts-f.result c.facts-f.ensures c.if-f.false c.rule_4.result (c.rule_4.ensures (mark_at c.args.sheet.now.certificate.now) c.facts-f.result c.args.a c.in-Ok.i.value c.of-to.ensures) c.if-not-rule_4.false c.rule_5.result (c.rule_5.ensures (mark_at c.args.sheet.now.certificate.now) c.facts-f.result c.args.a c.in-Ok.i.value c.of-to.ensures) c.if-not-rule_5.false c.rule_6.result (c.rule_6.ensures (mark_at c.args.sheet.now.certificate.now) c.facts-f.result c.args.a c.in-Ok.i.value c.of-to.ensures) c.if-not-rule_6.false c.rule_7.result (c.rule_7.ensures (mark_at c.args.sheet.now.certificate.now) c.facts-f.result c.args.a c.in-Ok.i.value c.of-to.ensures) c.if-not-rule_7.false c.rule_8.result c.rule_8.ensures c.if-not-rule_8.true

pub returns : goal.returns
returns c = keeps c.args.sheet.now.reader.now.config c.args.sheet.now.image.now c.args.sheet.now.certificate.now c.args.a c.mark-x.result.byte c.args.sheet.now.limit (ap (λ (m : Mark). m.byte) c.mark-x.ensures) c.args.sheet.now.limited c.rule_1.result c.rule_1.ensures c.if-not-rule_1.false (sym c.is_used.ensures ∙ c.if-not-is_used.false) c.rule_2.result c.rule_2.ensures c.if-not-rule_2.false c.in-Ok.i (sym (ap reading_of c.in-Ok.is) ∙ c.read.ensures ∙ ap (read_lawful c.args.sheet.now.reader.now.config) c.word.ensures) c.facts-f.result c.facts-f.ensures c.if-f.false c.rule_4.result (c.rule_4.ensures (mark_at c.args.sheet.now.certificate.now) c.facts-f.result c.args.a c.in-Ok.i.value c.of-to.ensures) c.if-not-rule_4.false c.rule_5.result (c.rule_5.ensures (mark_at c.args.sheet.now.certificate.now) c.facts-f.result c.args.a c.in-Ok.i.value c.of-to.ensures) c.if-not-rule_5.false c.rule_6.result (c.rule_6.ensures (mark_at c.args.sheet.now.certificate.now) c.facts-f.result c.args.a c.in-Ok.i.value c.of-to.ensures) c.if-not-rule_6.false c.rule_7.result (c.rule_7.ensures (mark_at c.args.sheet.now.certificate.now) c.facts-f.result c.args.a c.in-Ok.i.value c.of-to.ensures) c.if-not-rule_7.false c.rule_8.result c.rule_8.ensures c.if-not-rule_8.false
