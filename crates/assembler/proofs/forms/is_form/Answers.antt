-- `assembler::forms::is_form` meets its contract. Assumes nothing.
use Rattle.assembler.proofs.forms.Laws.{form_wide, form_narrow, form_else}
use Rattle.assembler.proofs.forms.is_form.Goals as goal

pub returns-then-form_byte-n : goal.returns-then-form_byte-n
returns-then-form_byte-n c = form_else _ _ _ _ _ c.form_byte.ensures c.if-form_byte-n.true

pub returns-then-t-at-ge-PATTERN : goal.returns-then-t-at-ge-PATTERN
returns-then-t-at-ge-PATTERN c = form_wide _ _ _ _ _ c.form_byte.ensures _ c.requires.0 c.requires.1 c.if-form_byte-n.false c.differs.ensures

pub returns-else-t-at-ge-PATTERN : goal.returns-else-t-at-ge-PATTERN
returns-else-t-at-ge-PATTERN c = form_narrow _ _ _ _ _ c.form_byte.ensures _ c.if-form_byte-n.false c.differs-else-t-at-ge-PATTERN.ensures
