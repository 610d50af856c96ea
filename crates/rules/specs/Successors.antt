-- Where control may go from a word: document 01's successors.
use Rattle.std.specs.Prelude.{ℕ, ◌+◌, Bool, true, false, List, [], ◌∷◌, ◌++◌}
use Rattle.laws.specs.Choice.{pick}
use Rattle.laws.specs.Test.{Test, yes?, ◌and◌}
use Rattle.words.specs.declared.Facts.{Facts}

-- an address, and whether it is reached by call: a JSR's target is, its next is not
pub record Successor : Type 0 where
  pub address : ℕ
  pub by_call : Bool

abbrev pub successor : ℕ → Bool → Successor
successor a b = record { address = a; by_call = b }

-- "none for RET, RLD; the target for JMP always; target and next for other JMP and JSR; next
-- otherwise", by the facts next and target: of a word with facts f at address a, whose value part is
-- t. "next is the address plus one"
unfoldable pub successors : Facts → ℕ → ℕ → List Successor
successors f a t =
    pick f.next (successor (a + 1) false ∷ []) [] ++ pick f.target (successor t f.calls ∷ []) []

-- p of each successor and its mark
abbrev pub for_each : (ℕ → ℕ) → List Successor → (Successor → ℕ → Test) → Test
for_each mark [] p = yes? true
for_each mark (s ∷ ss) p = p s (mark s.address) and for_each mark ss p
