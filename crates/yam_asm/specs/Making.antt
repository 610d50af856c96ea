-- What comes of a source: its words over an image, and the file of that image.
use Rattle.std.specs.Prelude.{ℕ, List, eqb, Option, None, Result, Ok, Err}
use Rattle.laws.specs.Choice.{pick}
use Rattle.words.specs.declared.Config.{Config}
use Rattle.assembler.specs.Answers.{assemble_call}
use Rattle.assembler.specs.Errors.{error_number, error_line, line_or_0}
use Rattle.image.specs.Answers.{refusal_number as store_number}
use Rattle.image.specs.Storing.{store_of}
use Rattle.opening.specs.Opening.{refusal_number as open_number}
use Rattle.yam_asm.specs.declared.Refused.{Refused}
use Rattle.yam_asm.specs.declared.Refused.TheVariants.{TooLong, Open, Assemble, Store}

-- the documents' number, the line that it names, and the file then
pub record Made : Type 0 where
  pub number : ℕ
  pub line : ℕ
  pub file : List ℕ

abbrev pub made : ℕ → ℕ → List ℕ → Made
made n k file = record { number = n; line = k; file = file }

-- a source that is refused leaves the file as it was
unfoldable pub made_of : Config → List ℕ → List ℕ → List ℕ → Made
made_of c source image file =
    let a = assemble_call c source image in
    let s = store_of c a.words file in
    pick (eqb a.number 0) (made s.number 0 s.file) (made a.number a.line file)

-- the documents' number of a refusal
abbrev pub refused_number : Refused → ℕ
refused_number TooLong = 2
refused_number (Open why) = open_number why
refused_number (Assemble why) = error_number why
refused_number (Store why) = store_number why

-- the source's line that it names: only assembling names one
abbrev pub refused_line : Refused → Option ℕ
refused_line TooLong = None
refused_line (Open why) = None
refused_line (Assemble why) = error_line why
refused_line (Store why) = None

-- what came of it: 0 for a pass
abbrev pub made_by : Result (Unit {0}) Refused → List ℕ → Made
made_by (Ok u) file = made 0 0 file
made_by (Err r) file = made (refused_number r) (line_or_0 (refused_line r)) file
