-- A line with six zeros for its label, as code makes it. Nothing here is to be believed: proofs/zeros/Laws.antt ties it to syntax's Labels.
use Rattle.std.specs.Prelude.{ℕ, List, ◌++◌, take, drop}
use Rattle.syntax.specs.Digits.{hex}

-- six zeros for the m bytes from `from` on
unfoldable pub zeroed : List ℕ → ℕ → ℕ → List ℕ
zeroed l from m = take from l ++ (hex 6 0 ++ drop m (drop from l))
