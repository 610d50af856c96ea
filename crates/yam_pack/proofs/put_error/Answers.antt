-- `yam_pack::put_error` meets its contract. Assumes nothing.
use Rattle.yam_pack.specs.Packing.{text_of}
use Rattle.yam_pack.proofs.put_error.Goals as goal

pub returns-in-TooLong : goal.returns-in-TooLong
unfolding text_of
returns-in-TooLong c = rw c.in-TooLong.is c.put_malformed.ensures

pub returns-in-BadEntry : goal.returns-in-BadEntry
unfolding text_of
returns-in-BadEntry c = rw c.in-BadEntry.is c.put_malformed-in-BadEntry.ensures

pub returns-in-BadLine : goal.returns-in-BadLine
unfolding text_of
returns-in-BadLine c = rw c.in-BadLine.is c.put_malformed-in-BadLine.ensures

pub returns-in-Refused : goal.returns-in-Refused
unfolding text_of
returns-in-Refused c = rw (c.in-Refused.is, ← c.number.ensures) c.put_refusal.ensures
