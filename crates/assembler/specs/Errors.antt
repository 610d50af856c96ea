-- Document 02's number for each refusal of a text, and the line that it names.
use Rattle.std.specs.Prelude.{ℕ, Option, Some, None, Result, Ok, Err}
use Rattle.words.specs.Answers.{refusal_number}
use Rattle.assembler.specs.declared.errors.LineError.{LineError}
use Rattle.assembler.specs.declared.errors.LineError.TheVariants.{NotInForm, UnknownLabel, Refused}
use Rattle.assembler.specs.declared.errors.AssembleError.{AssembleError}
use Rattle.assembler.specs.declared.errors.AssembleError.TheVariants.{Unlawful, TooMany, DoubledLabel, BadLine}

abbrev pub line_error_number : LineError → ℕ
line_error_number NotInForm = 26
line_error_number UnknownLabel = 25
line_error_number (Refused r) = refusal_number r

abbrev pub error_number : AssembleError → ℕ
error_number Unlawful = 1
error_number TooMany = 36
error_number (DoubledLabel k) = 24
error_number (BadLine k e) = line_error_number e

abbrev pub error_line : AssembleError → Option ℕ
error_line Unlawful = None
error_line TooMany = None
error_line (DoubledLabel k) = Some k
error_line (BadLine k e) = Some k

-- the same of an answer: 0 for a pass, and 0 where no line is named

abbrev pub line_or_0 : Option ℕ → ℕ
line_or_0 None = 0
line_or_0 (Some k) = k

abbrev pub number_of : {A : Type 0} → Result A AssembleError → ℕ
number_of (Ok x) = 0
number_of (Err e) = error_number e

abbrev pub line_of : {A : Type 0} → Result A AssembleError → ℕ
line_of (Ok x) = 0
line_of (Err e) = line_or_0 (error_line e)
