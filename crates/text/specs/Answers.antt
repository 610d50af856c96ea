-- Document 01's number and values of an answer, with the page that the call leaves.
use Rattle.std.specs.Prelude.{ℕ, zero, suc, List, Result, Ok, Err}
use denote.Ref.{at_last}
use Rattle.words.specs.declared.Config.{Config}
use Rattle.words.specs.Answers.{refusal_number}
use Rattle.text.specs.declared.errors.TextError.{TextError}
use Rattle.text.specs.declared.errors.TextError.TheVariants as text_error
use Rattle.text.specs.declared.errors.ListError.{ListError}
use Rattle.text.specs.declared.errors.ListError.TheVariants as list_error
use Rattle.text.specs.declared.listing.Listed.{Listed}
use Rattle.text.specs.declared.pages.Page.{Page}
use Rattle.text.specs.Texts.{Text}
use Rattle.text.specs.Lines.{Listing, listing, list_of}

abbrev pub text_error_number : TextError → ℕ
text_error_number (text_error.Unread why) = refusal_number why
text_error_number text_error.NoRoom = 18
text_error_number text_error.TooLong = 23

abbrev pub list_error_number : ListError → ℕ
list_error_number list_error.Unlawful = 1
list_error_number list_error.WrongSize = 2
list_error_number list_error.NoRoom = 18

-- 0 for a pass
abbrev pub outcome_number : {A : Type 0} → Result A ListError → ℕ
outcome_number (Ok x) = 0
outcome_number (Err why) = list_error_number why

-- the place after the text; the given place on a refusal
abbrev pub texted_of : Result ℕ TextError → ℕ → List ℕ → Text
texted_of (Ok after) place page = record { number = 0; place = after; page = page }
texted_of (Err why) place page = record { number = text_error_number why; place = place; page = page }

abbrev pub listed_of : Listed → List ℕ → Listing
listed_of r page = listing (outcome_number r.outcome) r.place r.next page

-- what the last listing onto a page answered
abbrev pub answered : Page → Listed
answered p = record { outcome = p.outcome; place = p.place; next = p.next }

-- the outcome of a number; 18 is what is left
abbrev pub outcome_of : ℕ → Result (Unit {0}) ListError
outcome_of zero = Ok tt
outcome_of (suc zero) = Err list_error.Unlawful
outcome_of (suc (suc zero)) = Err list_error.WrongSize
outcome_of (suc (suc (suc n))) = Err list_error.NoRoom

-- A page after a listing onto it from its place and its next address on: all four are what `list_of` answers. `at_last x l` is the reference x at the list l.
abbrev pub listed_on : Config → List ℕ → Page → Page
listed_on c image p =
    let r = list_of c image p.next p.bytes.now p.place in
    record { bytes = at_last p.bytes r.page; place = r.place; next = r.next; outcome = outcome_of r.number }
