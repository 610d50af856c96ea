-- The successors that the code has in hand, and what is asked of each.
use Rattle.std.specs.Prelude.{ℕ, ◌+◌, ◌≡◌, Bool, true, false, Option, None, Some}
use Rattle.laws.specs.Choice.{pick}
use Rattle.laws.specs.Test.{Test, test}
use Rattle.words.specs.declared.Facts.{Facts}
use Rattle.rules.specs.Successors.{successor}
use Rattle.rules.specs.Successors.{Successor as Going}
use Rattle.certificate.specs.declared.successors.Successor.{Successor}
use Rattle.certificate.specs.declared.successors.Successors.{Successors}

-- whether s passes the test p
abbrev pub passes : (Going → ℕ → Test) → Successor → Bool
passes p s = test (p (successor s.address s.by_call) s.mark.byte)

abbrev pub each : (Going → ℕ → Test) → Option Successor → Bool
each p None = true
each p (Some s) = passes p s

-- what a closure may give at the one there is, is whether it passes
abbrev pub Gives : (Successor → Bool → Type 0) → (Going → ℕ → Test) → Option Successor → Type 0
Gives post p None = Unit {0}
Gives post p (Some s) = (b : Bool) → post s b → b ≡ passes p s

-- those of a word with facts f at address a, whose value part is t
abbrev pub in_hand : (ℕ → ℕ) → Facts → ℕ → ℕ → Successors
in_hand mark f a t =
    record {
      next = pick f.next (Some (record { address = a + 1; mark = record { byte = mark (a + 1) }; by_call = false })) None;
      target = pick f.target (Some (record { address = t; mark = record { byte = mark t }; by_call = f.calls })) None;
    }
