-- `certificate::searching::rule_8` meets its contract. Assumes nothing.
use mathlib.Core.Path.{sym, ap, ◌∙◌}
use Rattle.words.specs.Answers.{reading_of}
use Rattle.certificate.proofs.judging.Laws.{port_read, no_port}
use Rattle.certificate.proofs.searching.rule_8.Goals as goal

pub returns-in-Ok : goal.returns-in-Ok
returns-in-Ok c = port_read c.args.sheet.now.reader.now.config c.args.sheet.now.image.now c.args.next _ _ _ _ c.if-not-output.false c.word.ensures (sym (ap reading_of c.in-Ok.is) ∙ c.read.ensures) c.facts.ensures

pub returns-in-Err : goal.returns-in-Err
returns-in-Err c = no_port c.args.sheet.now.reader.now.config c.args.sheet.now.image.now c.args.next _ _ _ c.if-not-output.false c.word.ensures (sym (ap reading_of c.in-Err.is) ∙ c.read.ensures)
