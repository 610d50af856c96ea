-- The bits that are set in any number of a list: by them the code tests a whole memory at once. It serves the code alone: what `step` and `run` promise does
-- not cite it, and the laws of proofs/Joins tie it to `below`.
use Rattle.std.specs.Prelude.{ℕ, List}
use Rattle.std.specs.List.{fold}
use Rattle.std.specs.Int.Bits.{bit_or}

abbrev pub join_of : List ℕ → ℕ
join_of xs = fold bit_or 0 xs
