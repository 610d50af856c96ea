-- `text::forms::form_in` meets its contract. Assumes nothing.
use Rattle.text.specs.Packed.{form_text, style_text}
use Rattle.text.proofs.forms.Laws.{last_named}
use Rattle.text.proofs.forms.form_in.Goals as goal

pub piece_of-requires-4 : goal.piece_of-requires-4
piece_of-requires-4 c = last_named c.args.p _ _ _ c.requires c.last_mark-mark.ensures

pub returns : goal.returns
unfolding form_text style_text
returns c = rw (c.piece_of.ensures, c.piece_of-2.ensures, c.piece_of-3.ensures, c.piece_of-4.ensures, c.shown_part.ensures, c.shown_part-2.ensures, c.last_mark-mark.ensures)
