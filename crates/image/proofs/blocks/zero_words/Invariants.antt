-- `image::blocks::zero_words` meets its contract. Assumes nothing.
use Rattle.std.proofs.Common.{◌≡◌, ◌+◌, ◌-◌}
use Rattle.laws.specs.Test.{test}
use Rattle.image.specs.File.{words_at}
use Rattle.image.specs.Loading.{zeros}
use Rattle.image.proofs.blocks.zero_words.Given as goal

abbrev pub invariant-loop-i : goal.invariant-loop-i
invariant-loop-i l = test (zeros (words_at l.file (l.from + l.i) (l.n - l.i))) ≡ test (zeros (words_at l.file l.from l.n))
