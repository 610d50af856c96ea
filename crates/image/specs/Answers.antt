-- Document 01's number of each refusal, and of an answer.
use Rattle.std.specs.Prelude.{ℕ, List, Result, Ok, Err}
use Rattle.words.specs.declared.Config.{Config}
use Rattle.image.specs.declared.Refusal.{Refusal}
use Rattle.image.specs.declared.Refusal.TheVariants.{Unlawful, WrongLength, FileLength, BlockNumber, Checksum, Filling}
use Rattle.image.specs.Loading.{Load, no_config}

unfoldable pub refusal_number : Refusal → ℕ
refusal_number Unlawful = 1
refusal_number WrongLength = 2
refusal_number FileLength = 19
refusal_number BlockNumber = 20
refusal_number Checksum = 21
refusal_number Filling = 22

-- 0 for a pass
unfoldable pub number_of : {A : Type 0} → Result A Refusal → ℕ
number_of (Ok _) = 0
number_of (Err x) = refusal_number x

-- what `load` answers, and what the image slice then holds: "beside its number a refusal answers zeros"
unfoldable pub load_answer : Result Config Refusal → List ℕ → Load
load_answer (Ok c) image = record { number = 0; config = c; image = image }
load_answer (Err x) image = record { number = refusal_number x; config = no_config; image = image }
