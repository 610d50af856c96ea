-- A text as code writes it: four pieces, each a string and then digits. proofs/Printed.antt ties them to syntax's texts.
use Rattle.std.specs.Prelude.{ℕ, ◌*◌, ◌/◌, ◌%◌, ◌<◌, not, ◌&&◌, List, [], ◌∷◌, ◌++◌, eqb, get_or}
use Rattle.laws.specs.Choice.{pick}
use Rattle.words.specs.declared.Instruction.{Instruction}
use Rattle.syntax.specs.Digits.{hex}
use Rattle.syntax.specs.Quoted.{quoted}
use Rattle.text.specs.Printed.{strings}
use Rattle.text.specs.declared.pieces.Piece.{Piece}
use Rattle.text.specs.declared.pieces.Form.{Form}

-- string k, past the table's end none
unfoldable pub string : ℕ → List ℕ
string k = quoted (get_or strings k "")

-- A packed style, hex digits from the right: two for the name's string, one for the width of the byte number; for each operand two for the string before its
-- digits, its width and its part; two for the string that stands last, ",S" or a condition; 1 where bit 26 chooses that.

-- the strings that packed style p names are below k
pub record Named (k p : ℕ) : Type 0 where
  pub name_below : p % 256 < k
  pub first_below : p / 0x1000 % 256 < k
  pub second_below : p / 0x10000000 % 256 < k
  pub last_below : p / 0x100000000000 % 256 < k

-- a piece's bytes and digits; a text's four pieces

unfoldable pub piece_text : Piece → List ℕ
piece_text p = p.bytes.now ++ hex p.width p.value

unfoldable pub form_text : Form → List ℕ
form_text f = piece_text f.name ++ (piece_text f.first ++ (piece_text f.second ++ piece_text f.last))

-- what an operand's digits show, by the part's number: nothing, destination, source, value, and JSRWP's offset, 16 times its unit
unfoldable pub shown_part : ℕ → Instruction → ℕ
shown_part k i = get_or (0 ∷ i.destination ∷ i.source ∷ i.value ∷ 16 * i.destination ∷ []) k 0

-- what stands last, where bit 26 is `bit`; string 0 is empty
unfoldable pub last_mark : ℕ → ℕ → ℕ → ℕ
last_mark flagged mark bit = pick (eqb flagged 1 && not (eqb bit 0)) 0 mark

-- the four pieces of an instruction's text; p is its row's packed style
unfoldable pub style_text : ℕ → Instruction → List ℕ
style_text p i =
    (string (p % 256) ++ hex (p / 0x100 % 16) i.number) ++ (
    (string (p / 0x1000 % 256) ++ hex (p / 0x100000 % 16) (shown_part (p / 0x1000000 % 16) i)) ++ (
    (string (p / 0x10000000 % 256) ++ hex (p / 0x1000000000 % 16) (shown_part (p / 0x10000000000 % 16) i)) ++
    (string (last_mark (p / 0x10000000000000 % 16) (p / 0x100000000000 % 256) i.flag) ++ hex 0 0)))
