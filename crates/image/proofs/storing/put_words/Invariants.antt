-- `image::storing::put_words` meets its contract. Assumes nothing.
use Rattle.std.proofs.Common.{◌≡◌, ◌+◌, ◌-◌, ◌*◌, ◌%◌, ◌^◌, ◌<◌, length}
use Rattle.std.proofs.lemmas.List.Edits.{sets}
use Rattle.image.specs.File.{total}
use Rattle.image.specs.Storing.{bytes_of, filled}
use Rattle.image.proofs.storing.put_words.Given as goal

abbrev pub invariant-loop-i : goal.invariant-loop-i
invariant-loop-i l = (length l.file ≡ length l.initial.file) × (sets l.file ((l.place + l.i) * 4) (bytes_of (filled l.words (l.from + l.i) (l.n - l.i))) ≡ sets l.initial.file (l.place * 4) (bytes_of (filled l.words l.from l.n))) × (l.s < 2 ^ 32) × ((l.s + total (filled l.words (l.from + l.i) (l.n - l.i))) % 2 ^ 32 ≡ (l.sum + total (filled l.words l.from l.n)) % 2 ^ 32)
