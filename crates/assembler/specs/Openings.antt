-- How a line opens, as code has it. Nothing here is to be believed: proofs/openings/Laws.antt ties it to syntax's Lines.
use Rattle.std.specs.Prelude.{ℕ, ◌≤◌, ◌≡◌, List, length, Option, Some, None}
use Rattle.laws.specs.Choice.{pick}
use Rattle.syntax.specs.Lines.{letters_of, labelled}
use Rattle.assembler.specs.Chains.{spell}
use Rattle.assembler.specs.Keys.{key_number}
use Rattle.assembler.specs.declared.openings.Opening.{Opening}

-- the label that a line starts with, as a number, if it starts with one
unfoldable pub opening_key : List ℕ → Option ℕ
opening_key l = pick (labelled l) (Some (spell 0 (letters_of l))) None

pub record Opens (l : List ℕ) (o : Opening) : Type 0 where
  pub letters_are : o.letters ≡ length (letters_of l)
  pub letters_inside : o.letters ≤ length l
  pub key_is : key_number o.key ≡ opening_key l
