-- What the calls promise, and what shows that the definitions are the intended ones. The contracts cite these records.
use Rattle.std.specs.Prelude.{ℕ, ◌+◌, ◌^◌, ◌≤◌, ◌<◌, ◌≡◌, Bool, List, [], ◌∷◌, Option, Result, Ok, Err, MatchOption, is_some, unwrap_or, length, drop}
use Rattle.std.proofs.lemmas.List.Edits.{sets}
use Rattle.laws.specs.Lists.{column}
use Rattle.laws.specs.Test.{Below}
use Rattle.words.specs.declared.Config.{Config}
use Rattle.parsing.specs.declared.BadEntry.{BadEntry}
use Rattle.parsing.specs.declared.BadLine.{BadLine}
use Rattle.parsing.specs.Words.{Reading, good, bad, before, words_in, call, call_of, printed}
use Rattle.parsing.specs.Entries.{entries_of}
use Rattle.parsing.specs.Generics.{Given, given, Gathered, all, malformed, generic_count, defaults, gather, gathered_in, generics_of}

-- Words printed hex 8, one a line, are read back.
abbrev pub PrintedWords : Type 0
PrintedWords = (ws : List ℕ) → Below (2 ^ 32) ws → words_in (printed ws) ≡ good ws

-- a bad line, and a malformed entry, has a number from 1 on: 0 says that there is none
abbrev pub LineFromOne : Reading → Type 0
LineFromOne (good ws) = Unit {0}
LineFromOne (bad k) = 0 < k

abbrev pub EntryFromOne : Gathered → Type 0
EntryFromOne (all vs) = Unit {0}
EntryFromOne (malformed k) = 0 < k

-- what `hex_words` promises of its answer r and of what the words lent then hold
pub record ReadsWords (text lent : List ℕ) (r : Result ℕ BadLine) (after : List ℕ) : Type 0 where
  pub answer : call r after ≡ call_of (words_in text) lent
  pub counted : LineFromOne (words_in text)
  pub back : PrintedWords

-- what `generics_of` promises of its answer r
pub record NamesGenerics (text : List ℕ) (r : Result Config BadEntry) : Type 0 where
  pub answer : r ≡ generics_of (gathered_in text)
  pub counted : EntryFromOne (gathered_in text)

-- the word of a text's first line, how many bytes that line has with its newline, which may be lacking, and that the text goes on behind it; or that line is
-- in another form
abbrev pub FirstWord : List ℕ → Option (ℕ × ℕ) → Type 0
FirstWord t r = MatchOption r (words_in t ≡ bad 1) (λ p. (0 < p.1) × (p.1 ≤ length t) × (words_in t ≡ before p.0 (words_in (drop p.1 t))))

-- what a text is heard to give, whose words go into the words lent; where a line is in another form, these are free
pub data Outcome : Type 0 where
  whole : ℕ → List ℕ → Outcome
  broken : ℕ → Outcome

abbrev pub outcome : Result ℕ BadLine → List ℕ → Outcome
outcome (Ok n) ws = whole n ws
outcome (Err e) ws = broken e.line

-- n words before these, which stand in the first n places
abbrev pub outcome_of : Reading → ℕ → List ℕ → Outcome
outcome_of (good ws) n lent = whole (n + length ws) (sets lent n ws)
outcome_of (bad k) n lent = broken (n + k)

abbrev pub Heard : List ℕ → List ℕ → Result ℕ BadLine → List ℕ → Type 0
Heard text lent r after = outcome r after ≡ outcome_of (words_in text) 0 lent

-- a place among the generics, or none where k lies past them
abbrev pub Found : Option ℕ → ℕ → Type 0
Found r k = MatchOption r (generic_count ≤ k) (λ i. (i ≡ k) × (i < generic_count))

-- what an entry gives, or none where that lies past the generics
abbrev pub Gives : Option (ℕ × ℕ) → Given → Type 0
Gives r g = MatchOption r (generic_count ≤ g.place) (λ p. (p.0 < generic_count) × (given p.0 p.1 ≡ g))

-- The values of the generics, where some are given: which have one, and the values over the defaults

abbrev pub marks_in : List (Option ℕ) → List Bool
marks_in xs = column is_some xs

abbrev pub values_over : List ℕ → List (Option ℕ) → List ℕ
values_over [] xs = []
values_over (d ∷ ds) [] = []
values_over (d ∷ ds) (x ∷ xs) = unwrap_or x d ∷ values_over ds xs

abbrev pub values_in : List (Option ℕ) → List ℕ
values_in xs = values_over defaults xs

-- what gathering answers, and the values that then stand there; beside a malformed entry these are free
abbrev pub gathered : Result (Unit {0}) BadEntry → List (Option ℕ) → Gathered
gathered (Ok u) xs = all (values_in xs)
gathered (Err e) xs = malformed e.entry

abbrev pub GathersAll : List ℕ → List (Option ℕ) → Result (Unit {0}) BadEntry → List (Option ℕ) → Type 0
GathersAll text xs r after = gathered r after ≡ gather 0 (marks_in xs) (values_in xs) (entries_of text)
