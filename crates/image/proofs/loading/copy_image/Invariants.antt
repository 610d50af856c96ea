-- `image::loading::copy_image` meets its contract. Assumes nothing.
use Rattle.std.proofs.Common.{◌≡◌, ◌-◌, ◌*◌, length}
use Rattle.std.proofs.lemmas.List.Edits.{sets}
use Rattle.image.specs.File.{image_words}
use Rattle.image.proofs.loading.copy_image.Given as goal

abbrev pub invariant-loop-b : goal.invariant-loop-b
invariant-loop-b l = (length l.image ≡ length l.initial.image) × (sets l.image (l.b * 126) (image_words l.file (l.b * 126) (l.n - l.b * 126)) ≡ sets l.initial.image 0 (image_words l.file 0 l.n))
