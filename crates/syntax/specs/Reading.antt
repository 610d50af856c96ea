-- Reading an instruction's line: it is in a form if it is what the form prints of what it reads off the line. So whatever is wrong with a line, it does not
-- print back.
use Rattle.std.specs.Prelude.{ℕ, Bool, List, [], ◌∷◌}
use Rattle.laws.specs.Choice.{pick}
use Rattle.words.specs.declared.Instruction.{Instruction}
use Rattle.words.specs.Frames.{DESTINATION, SOURCE, VALUE}
use Rattle.syntax.specs.Pieces.{print, read, equal}
use Rattle.syntax.specs.Forms.{Form, pieces_of, part_of, forms}

-- what form f reads off a line
unfoldable pub reading : Form → List ℕ → Instruction
reading f l =
    record {
      row = f.row;
      flag = f.flag;
      destination = read (pieces_of f) DESTINATION l;
      source = read (pieces_of f) SOURCE l;
      number = f.number;
      value = read (pieces_of f) VALUE l;
    }

unfoldable pub is_form : Form → List ℕ → Bool
is_form f l = equal (print (pieces_of f) (part_of (reading f l))) l

-- What reading a line gives: an instruction, or that the line is "not in the form".
pub data Line : Type 0 where
  found : Instruction → Line
  unread : Line

abbrev pub first_in : List Form → List ℕ → Line
first_in [] l = unread
first_in (f ∷ fs) l = let r = first_in fs l in pick (is_form f l) (found (reading f l)) r

unfoldable pub read_line : List ℕ → Line
read_line l = first_in forms l
