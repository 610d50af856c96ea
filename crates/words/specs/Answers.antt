-- Document 01's number and values for each case of an answer.
use Rattle.std.specs.Prelude.{ℕ, Bool, List, [], ◌∷◌, Result, Ok, Err}
use Rattle.laws.specs.Test.{Test, yes?}
use Rattle.words.specs.declared.Instruction.{Instruction}
use Rattle.words.specs.declared.Refusal.{Refusal}
use Rattle.words.specs.declared.Refusal.TheVariants.{Unlawful, NoRow, Unavailable, OutOfRange}
use Rattle.words.specs.Words.{Read, Written, zeros}

unfoldable pub refusal_number : Refusal → ℕ
refusal_number Unlawful = 1
refusal_number NoRow = 5
refusal_number Unavailable = 6
refusal_number OutOfRange = 7

unfoldable pub reading_of : Result Instruction Refusal → Read
reading_of (Ok i) = record { number = 0; instruction = i }
reading_of (Err x) = record { number = refusal_number x; instruction = zeros }

unfoldable pub writing_of : Result ℕ Refusal → Written
writing_of (Ok w) = record { number = 0; word = w }
writing_of (Err x) = record { number = refusal_number x; word = 0 }

-- the number of a verdict, 0 for a pass
unfoldable pub verdict_of : Result (Unit {0}) Refusal → ℕ
verdict_of (Ok u) = 0
verdict_of (Err x) = refusal_number x

-- refusals 6 and 7 of a word or an instruction that has a row, where their questions are answered: the row's option is there, its parts fit
unfoldable pub refusals_by : Bool → Bool → List (ℕ × Test)
refusals_by there fit = (6, yes? there) ∷ (7, yes? fit) ∷ []
