-- Laws of the numbers of refusals. Assumes nothing.
use Rattle.std.proofs.Common.{◌≡◌, arith}
use Rattle.image.specs.declared.Refusal.{Refusal}
use Rattle.image.specs.declared.Refusal.TheVariants.{Unlawful, WrongLength, FileLength, BlockNumber, Checksum, Filling}
use Rattle.image.specs.Answers.{refusal_number}

-- no refusal has the number of a pass
pub numbered : (x : Refusal) → refusal_number x ≡ 0 → ⊥
unfolding refusal_number
numbered Unlawful e = absurd (omega arith)
numbered WrongLength e = absurd (omega arith)
numbered FileLength e = absurd (omega arith)
numbered BlockNumber e = absurd (omega arith)
numbered Checksum e = absurd (omega arith)
numbered Filling e = absurd (omega arith)
