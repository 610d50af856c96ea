-- The rules at one address, as the code answers them.
use Rattle.std.specs.Prelude.{ℕ, ◌≡◌, Bool, List}
use Rattle.laws.specs.Test.{Test, test}
use Rattle.words.specs.declared.Facts.{Facts}
use Rattle.rules.specs.Successors.{successors}
use Rattle.rules.specs.Successors.{Successor as Going}
use Rattle.certificate.specs.declared.successors.Successors.{Successors}
use Rattle.certificate.specs.Successors.{in_hand}

-- b answers what `rule` says of the successors of a word that are in hand
abbrev pub AnswersRule : Successors → Bool → ((ℕ → ℕ) → List Going → Test) → Type 0
AnswersRule to b rule =
    (mark : ℕ → ℕ) (f : Facts) (a t : ℕ) → to ≡ in_hand mark f a t → b ≡ test (rule mark (successors f a t))
