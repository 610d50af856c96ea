-- `text::listing::list_lines` meets its contract. Assumes nothing.
use mathlib.Core.Path.{refl, sym, ap, ◌∙◌}
use native.Mathlib.Omega.{arith}
use borrow.Author.Tests.{leb-true}
use lib.ListN.{length}
use Rattle.text.specs.Packed.{form_text}
use Rattle.text.proofs.Written.{length_written}
use Rattle.text.proofs.listing.Laws.{goes_on, stops, ends, last_next}
use Rattle.text.proofs.listing.list_lines.Goals as goal

pub returns-then-not-has_room : goal.returns-then-not-has_room
returns-then-not-has_room c =
    stops c.args.reader.now.config c.args.image.now c.loop-a.page c.loop-a.at c.loop-a.a _ _ (form_text c.word_form-f.result) refl c.word_form-f.ensures
    c.line_len.ensures.0 c.loop-a-test.true (sym c.has_room.ensures ∙ c.if-not-has_room.true)
    ∙ c.loop-a.invariant.1

pub put_line-at-requires : goal.put_line-at-requires
put_line-at-requires c =
    let h = leb-true _ (length c.loop-a.page) (sym c.has_room.ensures ∙ c.if-not-has_room.false) in
    omega (arith, c.line_len.ensures, h)

pub loop-a-preserved : goal.loop-a-preserved
loop-a-preserved c = (
  ap length c.put_line-at.ensures.page ∙ length_written _ _ _ ∙ c.loop-a.invariant.0,
  goes_on c.args.reader.now.config c.args.image.now c.loop-a.page c.loop-a.at c.loop-a.a _ _ (form_text c.word_form-f.result) refl c.word_form-f.ensures
      c.line_len.ensures.0 c.loop-a-test.true (sym c.has_room.ensures ∙ c.if-not-has_room.false) c.put_line-at.ensures
      ∙ c.loop-a.invariant.1,
  λ h. let e = c.loop-a.invariant.2 h in omega (arith, h, c.loop-a-test.true, e),
)

pub returns : goal.returns
returns c = ends c.args.reader.now.config c.args.image.now c.loop-a.page c.loop-a.at c.loop-a.a _ c.loop-a-test.false (last_next c.args.first (length c.args.image.now) _ _ c.max.ensures c.loop-a-test.false c.loop-a.auto.a-end c.loop-a.invariant.2) ∙ c.loop-a.invariant.1
