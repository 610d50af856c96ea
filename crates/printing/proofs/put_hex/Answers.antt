-- `printing::put_hex` meets its contract. Assumes nothing.
use mathlib.Core.Path.{sym}
use Rattle.syntax.specs.Digits.{digit, hex}
use Rattle.text.proofs.Spelled.{length_spelled}
use Rattle.printing.proofs.Puts.{room_there, no_room, stored}
use Rattle.printing.proofs.put_hex.Goals as goal

pub returns-then-not-has_room : goal.returns-then-not-has_room
returns-then-not-has_room c = no_room _ _ _ (hex c.args.w c.args.n) _ _ (sym (length_spelled digit 16 _ _)) c.has_room.ensures c.if-not-has_room.true c.beyond.ensures

pub put_hex-requires : goal.put_hex-requires
put_hex-requires c = room_there c.args.page.now c.args.at 0 (hex c.args.w c.args.n) _ _ (sym (length_spelled digit 16 _ _)) c.has_room.ensures c.if-not-has_room.false

pub returns : goal.returns
returns c = stored _ _ _ (hex c.args.w c.args.n) _ _ (sym (length_spelled digit 16 _ _)) c.has_room.ensures c.if-not-has_room.false c.put_hex.ensures
