-- A line's word, or the number of its refusal, as code has it. Nothing here is to be believed: proofs/writing/Laws.antt ties it to syntax's Labels and Assembly.
use Rattle.std.specs.Prelude.{ℕ, ◌≡◌, List, Result, Ok, Err}
use Rattle.words.specs.declared.Config.{Config}
use Rattle.words.specs.Words.{Written}
use Rattle.syntax.specs.Labels.{Label, given_by}
use Rattle.syntax.specs.Assembly.{word_given}
use Rattle.assembler.specs.Errors.{line_error_number}
use Rattle.assembler.specs.Tables.{Tabled}
use Rattle.assembler.specs.declared.errors.LineError.{LineError}
use Rattle.assembler.specs.declared.labels.Labels.{Labels}

abbrev pub outcome_of : Result ℕ LineError → Written
outcome_of (Ok w) = record { number = 0; word = w }
outcome_of (Err e) = record { number = line_error_number e; word = 0 }

-- whatever labels the table holds, r is the word of the instruction l
abbrev pub Worded : Config → Labels → List ℕ → Result ℕ LineError → Type 0
Worded c t l r = (labels : List Label) → Tabled t labels → outcome_of r ≡ word_given c (given_by labels l)
