-- What is asked of the successors that the code has in hand is asked of those of the definition. Assumes nothing.
use Prim.Native.Nat.{ℕ, ◌+◌}
use mathlib.Core.Path.{◌≡◌, refl, sym, ◌∙◌}
use mathlib.Core.Bool.{Bool, true, false, ◌&&◌}
use Rattle.std.proofs.Common.{Option, None, Some}
use Rattle.std.specs.Bool.{then_some}
use Rattle.laws.specs.Choice.{pick}
use Rattle.laws.specs.Test.{Test, test, imp}
use Rattle.words.specs.declared.Facts.{Facts}
use Rattle.rules.specs.Successors.{successors, for_each}
use Rattle.rules.specs.Successors.{Successor as Going}
use Rattle.rules.proofs.Successors.{asked}
use Rattle.certificate.specs.declared.successors.Successor.{Successor}
use Rattle.certificate.specs.declared.successors.Successors.{Successors}
use Rattle.certificate.specs.Successors.{passes, each, Gives, in_hand}

each_pick : (b : Bool) (p : Going → ℕ → Test) (s : Successor) → each p (pick b (Some s) None) ≡ imp b (passes p s)
unfolding pick
each_pick true p s = refl
each_pick false p s = refl

pub picked : {A : Type 0} (b : Bool) (x : A) → then_some b x ≡ pick b (Some x) None
unfolding pick
picked true x = refl
picked false x = refl

-- a closure that passes whom p passes
pub gives : (post : Successor → Bool → Type 0) (p : Going → ℕ → Test) (o : Option Successor) → ((s : Successor) (b : Bool) → post s b → b ≡ passes p s) →
    Gives post p o
gives post p None h = tt
gives post p (Some s) h = h s

pub answers : (mark : ℕ → ℕ) (f : Facts) (a t : ℕ) (to : Successors) (r : Bool) (p : Going → ℕ → Test) →
    to ≡ in_hand mark f a t → r ≡ (each p to.next && each p to.target) → r ≡ test (for_each mark (successors f a t) p)
answers mark f a t to r p q e =
    e ∙
    rw (
      q,
      each_pick f.next p (record { address = a + 1; mark = record { byte = mark (a + 1) }; by_call = false }),
      each_pick f.target p (record { address = t; mark = record { byte = mark t }; by_call = f.calls }),
    )
    (sym (asked mark p f a t))
