-- `text::lines::refused_form` meets its contract. Assumes nothing.
use Rattle.text.specs.Packed.{piece_text}
use Rattle.text.proofs.Refusals.{small_number}
use Rattle.text.proofs.texts.Laws.{question}
use Rattle.text.proofs.lines.refused_form.Goals as goal

pub returns : goal.returns
unfolding piece_text
returns c = question _ _ (small_number c.args.why) (rw c.number.ensures at c.alone.ensures)
