-- What `assemble` promises beside the equation: the theorems of syntax's Claims, so that none can be dropped.
use Rattle.std.specs.Prelude.{ℕ, ◌≡◌, List, Result}
use Rattle.words.specs.declared.Config.{Config}
use Rattle.syntax.specs.Claims.{PrintThenRead, ReadThenPrint, UnreadNone, ListedBack, AssembledBack, LabelsMean, LabelsResolved}
use Rattle.assembler.specs.declared.errors.AssembleError.{AssembleError}
use Rattle.assembler.specs.Answers.{assembled_of, assemble_call}

-- what `assemble` promises of its answer r and of the words after it
pub record Assembles (c : Config) (text words : List ℕ) (r : Result ℕ AssembleError) (after : List ℕ) : Type 0 where
  pub answer : assembled_of r after ≡ assemble_call c text words
  pub print_read : PrintThenRead
  pub read_print : ReadThenPrint
  pub unread_none : UnreadNone
  pub listed_back : ListedBack
  pub assembled_back : AssembledBack
  pub labels_mean : LabelsMean
  pub labels_resolved : LabelsResolved
