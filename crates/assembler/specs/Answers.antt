-- What a call of `assemble` answers and leaves.
use Rattle.std.specs.Prelude.{ℕ, List, length, Result, Ok, Err}
use Rattle.std.proofs.lemmas.List.Edits.{sets}
use Rattle.words.specs.declared.Config.{Config}
use Rattle.syntax.specs.Assembly.{assemble_of}
use Rattle.assembler.specs.Errors.{number_of, line_of}
use Rattle.assembler.specs.declared.errors.AssembleError.{AssembleError}

-- document 02's number, the line that it names, how many words were written, and the lent words then
pub record Answer : Type 0 where
  pub number : ℕ
  pub line : ℕ
  pub count : ℕ
  pub words : List ℕ

abbrev pub count_of : Result ℕ AssembleError → ℕ
count_of (Ok n) = n
count_of (Err e) = 0

abbrev pub assembled_of : Result ℕ AssembleError → List ℕ → Answer
assembled_of r after = record { number = number_of r; line = line_of r; count = count_of r; words = after }

-- "A pass answers how many words it wrote; a refusal writes none." Words beyond the count stay.
unfoldable pub assemble_call : Config → List ℕ → List ℕ → Answer
assemble_call c text words =
    let r = assemble_of c text (length words) in
    record { number = r.number; line = r.line; count = length r.words; words = sets words 0 r.words }
