-- A pass over all lines, as code makes it. Nothing here is to be believed: proofs/lines/Laws.antt ties it to syntax's Assembly.
use Rattle.std.specs.Prelude.{ℕ, ◌≡◌, Bool, true, false, List, [], length, Option, Some, None, Result, Ok, Err}
use Rattle.std.proofs.lemmas.List.Edits.{sets}
use Rattle.words.specs.declared.Config.{Config}
use Rattle.words.specs.Words.{Written}
use Rattle.syntax.specs.Lines.{lines_of, counts}
use Rattle.syntax.specs.Labels.{Label, gathered}
use Rattle.syntax.specs.Assembly.{Assembly, word_at, words_from}
use Rattle.assembler.specs.Answers.{count_of}
use Rattle.assembler.specs.Errors.{number_of, line_of}
use Rattle.assembler.specs.Tables.{Tabled}
use Rattle.assembler.specs.Writing.{outcome_of}
use Rattle.assembler.specs.declared.errors.AssembleError.{AssembleError}
use Rattle.assembler.specs.declared.errors.LineError.{LineError}
use Rattle.assembler.specs.declared.labels.Labels.{Labels}

-- whether a line counts as a word, by what it gives
abbrev pub counted_of : Result (Option ℕ) LineError → Bool
counted_of (Ok None) = false
counted_of (Ok (Some w)) = true
counted_of (Err e) = true

-- its word, or the number of its refusal; 0 and 0 where it counts as none
abbrev pub written_of : Result (Option ℕ) LineError → Written
written_of (Ok None) = record { number = 0; word = 0 }
written_of (Ok (Some w)) = outcome_of (Ok w)
written_of (Err e) = outcome_of (Err e)

-- what the line l gives, whatever labels the table holds
pub record Gives (c : Config) (t : Labels) (l : List ℕ) (r : Result (Option ℕ) LineError) : Type 0 where
  pub counts_is : counted_of r ≡ counts l
  pub word_is : counted_of r ≡ true → (labels : List Label) → Tabled t labels → written_of r ≡ word_at c labels l

-- the words of a text with these labels, or its first bad line
abbrev pub words_of : Config → List ℕ → Assembly
words_of c text = words_from c (gathered [] 0 (lines_of text)) 1 (lines_of text)

-- what `read_lines` promises of its answer r and of the words after it: the second pass keeps them
pub record Passes (c : Config) (text words : List ℕ) (r : Result ℕ AssembleError) (after : List ℕ) : Type 0 where
  pub number : number_of r ≡ (words_of c text).number
  pub line : line_of r ≡ (words_of c text).line
  pub count : count_of r ≡ length (words_of c text).words
  pub written : number_of r ≡ 0 → after ≡ sets words 0 (words_of c text).words
