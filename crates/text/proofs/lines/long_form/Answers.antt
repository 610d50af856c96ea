-- `text::lines::long_form` meets its contract. Assumes nothing.
use Rattle.laws.specs.Choice.{pick}
use Rattle.syntax.specs.Digits.{spelled}
use Rattle.text.specs.Packed.{piece_text}
use Rattle.text.specs.Texts.{decimal, refused_text}
use Rattle.text.proofs.lines.long_form.Goals as goal

pub returns : goal.returns
unfolding piece_text spelled refused_text decimal pick
returns c = c.alone.ensures
