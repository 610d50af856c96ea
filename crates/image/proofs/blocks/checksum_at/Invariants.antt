-- `image::blocks::checksum_at` meets its contract. Assumes nothing.
use Rattle.std.proofs.Common.{◌≡◌, ◌+◌, ◌-◌, ◌%◌, ◌^◌, ◌<◌}
use Rattle.image.specs.File.{words_at, total, checksum}
use Rattle.image.proofs.blocks.checksum_at.Given as goal

abbrev pub invariant-loop-i : goal.invariant-loop-i
invariant-loop-i l = (l.sum < 2 ^ 32) × ((l.sum + total (words_at l.file (l.from + l.i) (127 - l.i))) % 2 ^ 32 ≡ checksum (words_at l.file l.from 127))
