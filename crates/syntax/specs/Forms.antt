-- The forms of an instruction's line, read off the table of texts: what a row, bit 26 and a byte number choose. The text of an instruction.
use Rattle.std.specs.Prelude.{ℕ, zero, suc, ◌&&◌, List, [], ◌∷◌, ◌++◌, eqb}
use Prim.Native.String.{String}
use Rattle.laws.specs.Choice.{pick}
use Rattle.words.specs.declared.Config.{Config}
use Rattle.words.specs.declared.Instruction.{Instruction}
use Rattle.words.specs.Parts.{Part, flag, byte, is, never, needs}
use Rattle.words.specs.Frames.{Column, FLAG, NUMBER, DESTINATION, SOURCE, VALUE}
use Rattle.words.specs.Rows.{row_at, row_count}
use Rattle.syntax.specs.Digits.{hex}
use Rattle.syntax.specs.Quoted.{quoted}
use Rattle.syntax.specs.Pieces.{Piece, says, print}
use Rattle.syntax.specs.Operands.{Operand}
use Rattle.syntax.specs.Styles.{style_at}

-- the first operand after a space, later ones after a comma
abbrev pub operands_from : String → List Operand → List Piece
operands_from separator [] = []
operands_from separator (o ∷ os) = says (quoted separator) ∷ (o ++ operands_from "," os)

-- "byte number at the name's end": one digit, where the number part holds one
unfoldable pub number_text : Part → ℕ → List ℕ
number_text p k = pick (is p byte) (hex 1 k) []

-- '",S" when bit 26 of an ALU word is 0'
unfoldable pub flag_text : Part → ℕ → String
flag_text p b = pick (is p flag && eqb b 0) ",S" ""

-- a form of line: what its name, marks and endings choose
pub record Form : Type 0 where
  pub row : ℕ
  pub flag : ℕ
  pub number : ℕ

abbrev pub form : ℕ → ℕ → ℕ → Form
form n b k = record { row = n; flag = b; number = k }

-- the pieces of a form's lines: name, byte number, operands, flags
unfoldable pub pieces_of : Form → List Piece
pieces_of f =
    let r = row_at f.row in
    let s = style_at f.row in
    says (quoted s.name ++ number_text r.number f.number) ∷ (
    operands_from " " s.operands ++ (
    says (quoted (flag_text r.flag f.flag)) ∷ []))

-- a part of an instruction by its column
unfoldable pub part_of : Instruction → Column → ℕ
part_of i FLAG = i.flag
part_of i NUMBER = i.number
part_of i DESTINATION = i.destination
part_of i SOURCE = i.source
part_of i VALUE = i.value

abbrev pub form_of : Instruction → Form
form_of i = form i.row i.flag i.number

-- The text of an instruction. One style of operands so far, whatever the configuration c.
unfoldable pub text_of : Config → Instruction → List ℕ
text_of c i = print (pieces_of (form_of i)) (part_of i)

-- The forms that there are

-- how many byte numbers, and how many values of bit 26, a row's names and endings tell apart
unfoldable pub numbers_of : Part → ℕ
numbers_of p = pick (is p byte) 4 1

unfoldable pub flags_of : Part → ℕ
flags_of p = pick (is p flag) 2 1

abbrev pub numbered : ℕ → ℕ → ℕ → ℕ → List Form
numbered n b k zero = []
numbered n b k (suc m) = form n b k ∷ numbered n b (suc k) m

abbrev pub flagged : ℕ → ℕ → ℕ → ℕ → List Form
flagged n b m zero = []
flagged n b m (suc j) = numbered n b 0 m ++ flagged n (suc b) m j

-- "unsupported" rows have none
unfoldable pub forms_of : ℕ → List Form
forms_of n =
    let r = row_at n in
    pick (needs r.option never) [] (flagged n 0 (numbers_of r.number) (flags_of r.flag))

abbrev pub forms_from : ℕ → ℕ → List Form
forms_from n zero = []
forms_from n (suc m) = forms_of n ++ forms_from (suc n) m

unfoldable pub forms : List Form
forms = forms_from 0 row_count
