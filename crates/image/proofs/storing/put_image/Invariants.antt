-- `image::storing::put_image` meets its contract. Assumes nothing.
use Rattle.std.proofs.Common.{◌≡◌, ◌+◌, ◌-◌, ◌*◌, length}
use Rattle.std.proofs.lemmas.List.Edits.{sets}
use Rattle.image.specs.Storing.{bytes_of, blocks_of}
use Rattle.image.proofs.storing.put_image.Given as goal

abbrev pub invariant-loop-b : goal.invariant-loop-b
invariant-loop-b l = (length l.file ≡ length l.initial.file) × (sets l.file ((l.b + 1) * 512) (bytes_of (blocks_of (l.b + 1) l.image (l.b * 126) (l.n - l.b))) ≡ sets l.initial.file 512 (bytes_of (blocks_of 1 l.image 0 l.n)))
