-- `printing::put_bytes` meets its contract. Assumes nothing.
use mathlib.Core.Path.{refl}
use Rattle.printing.proofs.Puts.{room_there, no_room, stored}
use Rattle.printing.proofs.put_bytes.Goals as goal

pub returns-then-not-has_room : goal.returns-then-not-has_room
returns-then-not-has_room c = no_room _ _ _ c.args.bytes.now _ _ refl c.has_room.ensures c.if-not-has_room.true c.beyond.ensures

pub put_bytes-requires : goal.put_bytes-requires
put_bytes-requires c = room_there c.args.page.now c.args.at 0 c.args.bytes.now _ _ refl c.has_room.ensures c.if-not-has_room.false

pub returns : goal.returns
returns c = stored _ _ _ c.args.bytes.now _ _ refl c.has_room.ensures c.if-not-has_room.false c.put_bytes.ensures
