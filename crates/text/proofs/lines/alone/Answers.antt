-- `text::lines::alone` meets its contract. Assumes nothing.
use mathlib.Core.List.{append-nil}
use Rattle.syntax.specs.Digits.{spelled}
use Rattle.text.specs.Packed.{piece_text, form_text}
use Rattle.text.proofs.lines.alone.Goals as goal

pub returns : goal.returns
unfolding form_text piece_text spelled
returns c = append-nil _
