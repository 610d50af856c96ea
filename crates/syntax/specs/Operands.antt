-- Operands as manual 5 writes them: a mark, and hex digits of a part (document 01, 'Listing and image file').
use Rattle.std.specs.Prelude.{ℕ, List, [], ◌∷◌}
use Prim.Native.String.{String}
use Rattle.words.specs.Frames.{Column, DESTINATION, SOURCE, VALUE}
use Rattle.syntax.specs.Quoted.{quoted}
use Rattle.syntax.specs.Pieces.{Piece, says, shows}

abbrev pub Operand : Type 0
Operand = List Piece

abbrev pub marked : String → ℕ → Column → Operand
marked mark width part = says (quoted mark) ∷ shows width part ∷ []

-- "registers % and two hex digits, immediates a mark and four, data addresses & and four, targets six, JSRWP address four and offset three"

abbrev pub %d : Operand
%d = marked "%" 2 DESTINATION

abbrev pub %s : Operand
%s = marked "%" 2 SOURCE

abbrev pub at-%d : Operand
at-%d = marked "@%" 2 DESTINATION

abbrev pub at-%s : Operand
at-%s = marked "@%" 2 SOURCE

abbrev pub at-%X+ : Operand
at-%X+ = says (quoted "@%X+") ∷ []

abbrev pub &a : Operand
&a = marked "&" 4 VALUE

abbrev pub #imm : Operand
#imm = marked "#" 4 VALUE

abbrev pub >imm : Operand
>imm = marked ">" 4 VALUE

abbrev pub <imm : Operand
<imm = marked "<" 4 VALUE

abbrev pub #short : Operand
#short = marked "#" 2 VALUE

abbrev pub #count : Operand  -- of a shift
#count = marked "#" 4 VALUE

abbrev pub target : Operand
target = shows 6 VALUE ∷ []

abbrev pub address : Operand
address = shows 4 VALUE ∷ []

-- JSRWP's WP is 16 times its unit: two digits of the unit, and a 0
abbrev pub offset : Operand
offset = shows 2 DESTINATION ∷ says (quoted "0") ∷ []

abbrev pub mask : Operand
mask = shows 1 DESTINATION ∷ []

-- a condition of JMP
abbrev pub when : String → Operand
when condition = says (quoted condition) ∷ []

-- A row's text: the row by its word with all parts zero, its name and its operands.
pub record Style : Type 0 where
  pub base : ℕ
  pub name : String
  pub operands : List Operand

abbrev pub style : ℕ → String → List Operand → Style
style base name operands = record { base = base; name = name; operands = operands }
