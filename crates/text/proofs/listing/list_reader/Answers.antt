-- `text::listing::list_reader` meets its contract. Assumes nothing.
use mathlib.Core.Path.{refl}
use Rattle.text.proofs.listing.Laws.{number_1, number_2, number_18, number_0}
use Rattle.text.proofs.listing.list_reader.Goals as goal

pub returns-in_default-clause-number : goal.returns-in_default-clause-number
returns-in_default-clause-number c = number_1 c.args.c _ _ _ (c.in_default.ensures.none.0 refl)

pub returns-then-words-c-clause-number : goal.returns-then-words-c-clause-number
returns-then-words-c-clause-number c = number_2 c.args.c _ _ _ (rw c.in-Some.ensures.some at c.in-Some.reader.is_lawful) c.if-words-c.true

pub returns-then-size-place-clause-number : goal.returns-then-size-place-clause-number
returns-then-size-place-clause-number c =
    number_18 c.args.c _ _ _ (rw c.in-Some.ensures.some at c.in-Some.reader.is_lawful) c.if-words-c.false c.if-size-place.true

pub returns-clause-number : goal.returns-clause-number
returns-clause-number c =
    number_0 c.args.c _ _ _ (rw c.in-Some.ensures.some at c.in-Some.reader.is_lawful) c.if-words-c.false c.if-size-place.false
