-- The outcome of a number is the outcome again.
-- Assumes nothing.
use Prim.Native.Nat.{ℕ}
use mathlib.Core.Path.{◌≡◌, refl}
use mathlib.Core.List.{List}
use denote.Ref.{at_last}
use Rattle.std.specs.Prelude.{Result, Ok, Err}
use Rattle.words.specs.declared.Config.{Config}
use Rattle.text.specs.declared.errors.ListError.{ListError}
use Rattle.text.specs.declared.errors.ListError.TheVariants.{Unlawful, WrongSize, NoRoom}
use Rattle.text.specs.declared.listing.Listed.{Listed}
use Rattle.text.specs.declared.pages.Page.{Page}
use Rattle.text.specs.Lines.{list_of}
use Rattle.text.specs.Answers.{outcome_number, outcome_of, listed_of, listed_on}

outcome_back : (o : Result (Unit {0}) ListError) → outcome_of (outcome_number o) ≡ o
outcome_back (Ok u) = refl
outcome_back (Err Unlawful) = refl
outcome_back (Err WrongSize) = refl
outcome_back (Err NoRoom) = refl

pub listed_page : (c : Config) (image : List ℕ) (p : Page) (r : Listed) (after : List ℕ) → listed_of r after ≡ list_of c image p.next p.bytes.now p.place →
    ◌≡◌ {A = Page} (record { bytes = at_last p.bytes after; place = r.place; next = r.next; outcome = r.outcome }) (listed_on c image p)
listed_page c image p r after e = rw (← e, outcome_back r.outcome)
