-- What a writer leaves on a page.
use Rattle.std.specs.Prelude.{ℕ, ◌+◌, ◌≡◌, List, length}
use Rattle.std.proofs.lemmas.List.Edits.{sets}

-- p with the bytes t stored from `at` on
unfoldable pub written : List ℕ → ℕ → List ℕ → List ℕ
written p at t = sets p at t

-- a write of t: the place r that the writer answers, and its page q
pub record Wrote (p : List ℕ) (at : ℕ) (t : List ℕ) (r : ℕ) (q : List ℕ) : Type 0 where
  pub next : r ≡ at + length t
  pub page : q ≡ written p at t
