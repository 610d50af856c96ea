-- `report::fields::put_change` meets its contract. Assumes nothing.
use Rattle.printing.proofs.Printers.{prints_then}
use Rattle.report.specs.Values.{shown_text}
use Rattle.report.proofs.Texts.{unchanged, changed}
use Rattle.report.proofs.fields.put_change.Goals as goal

pub returns-then-old-f : goal.returns-then-old-f
returns-then-old-f c = unchanged _ c.args.f.name.now (shown_text c.args.f.shown c.args.f.value) _ _ c.if-old-f.true

pub returns : goal.returns
returns c = changed c.args.f.name.now (shown_text c.args.f.shown c.args.f.value) _ _ c.if-old-f.false (prints_then c.bytes.ensures (prints_then c.bytes-2.ensures (prints_then c.bytes-3.ensures c.put_value.ensures)))
