-- `image::blocks::check_blocks` meets its contract. Assumes nothing.
use Rattle.std.proofs.Common.{◌≡◌, ◌-◌}
use Rattle.laws.specs.First.{first_failing}
use Rattle.image.specs.Loading.{blocks_tests}
use Rattle.image.proofs.blocks.check_blocks.Given as goal

abbrev pub invariant-loop-b : goal.invariant-loop-b
invariant-loop-b l = first_failing (blocks_tests l.file l.b (l.b-end - l.b)) ≡ first_failing (blocks_tests l.file l.from l.n)
