-- `text::pieces::Form::put` meets its contract. Assumes nothing.
use Rattle.text.specs.Packed.{form_text}
use Rattle.text.proofs.Written.{then}
use Rattle.text.proofs.pieces.Form.put.Goals as goal

pub returns : goal.returns
unfolding form_text
returns c = then c.put-i.ensures (then c.put-j.ensures (then c.put-k.ensures c.put.ensures))
