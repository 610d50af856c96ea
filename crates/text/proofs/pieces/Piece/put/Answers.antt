-- `text::pieces::Piece::put` meets its contract. Assumes nothing.
use Rattle.text.specs.Packed.{piece_text}
use Rattle.text.proofs.Written.{then}
use Rattle.text.proofs.pieces.Piece.put.Goals as goal

pub returns : goal.returns
unfolding piece_text
returns c = then c.put_bytes-a.ensures c.put_hex.ensures
