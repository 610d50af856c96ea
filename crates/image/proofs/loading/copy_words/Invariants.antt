-- `image::loading::copy_words` meets its contract. Assumes nothing.
use Rattle.std.proofs.Common.{◌≡◌, ◌+◌, ◌-◌, length}
use Rattle.std.proofs.lemmas.List.Edits.{sets}
use Rattle.image.specs.File.{words_at}
use Rattle.image.proofs.loading.copy_words.Given as goal

abbrev pub invariant-loop-i : goal.invariant-loop-i
invariant-loop-i l = (length l.image ≡ length l.initial.image) × (sets l.image (l.at + l.i) (words_at l.file (l.place + l.i) (l.n - l.i)) ≡ sets l.initial.image l.at (words_at l.file l.place l.n))
