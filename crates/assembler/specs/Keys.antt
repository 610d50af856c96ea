-- Labels as numbers, as code holds them. Nothing here is to be believed: proofs/labels/Laws.antt ties it to syntax's Labels.
use Rattle.std.specs.Prelude.{ℕ, List, Option, Some, None}
use Rattle.laws.specs.Choice.{pick}
use Rattle.syntax.specs.Lines.{is_label}
use Rattle.assembler.specs.Chains.{spell}
use Rattle.assembler.specs.declared.keys.Key.{Key}

-- a label's number, if the letters are a label
unfoldable pub label_key : List ℕ → Option ℕ
label_key s = pick (is_label s) (Some (spell 0 s)) None

abbrev pub key_number : Option Key → Option ℕ
key_number None = None
key_number (Some k) = Some k.number
