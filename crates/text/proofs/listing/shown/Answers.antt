-- `text::listing::shown` meets its contract. Assumes nothing.
use mathlib.Core.Path.{refl, sym, ◌∙◌}
use Rattle.text.specs.Packed.{form_text}
use Rattle.text.proofs.texts.Laws.{unlawful_shown, no_room_shown, room_shown}
use Rattle.text.proofs.listing.shown.Goals as goal

pub returns-in_default : goal.returns-in_default
returns-in_default c = unlawful_shown c.args.c c.args.w _ _ (c.in_default.ensures.none.0 refl)

pub returns-then-not-has_room : goal.returns-then-not-has_room
returns-then-not-has_room c =
    no_room_shown c.args.c c.args.w _ _ (form_text c.word_form-f.result) _ (rw c.in-Some.ensures.some at c.in-Some.reader.is_lawful)
    (rw c.in-Some.ensures.some at c.word_form-f.ensures) c.len.ensures.0 (sym c.has_room.ensures ∙ c.if-not-has_room.true)

pub returns : goal.returns
returns c =
    room_shown c.args.c c.args.w _ _ (form_text c.word_form-f.result) _ (rw c.in-Some.ensures.some at c.in-Some.reader.is_lawful)
    (rw c.in-Some.ensures.some at c.word_form-f.ensures) c.len.ensures.0 (sym c.has_room.ensures ∙ c.if-not-has_room.false) c.put.ensures
