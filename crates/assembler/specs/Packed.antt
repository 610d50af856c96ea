-- The forms as code holds them: 32 bytes each. Nothing here is to be believed: proofs/Packed.antt ties it to syntax's Forms.
use Rattle.std.specs.Prelude.{ℕ, zero, suc, ◌+◌, ◌*◌, ◌<◌, ◌≤◌, Bool, true, ◌&&◌, ◌||◌, ◌≡◌, List, [], ◌∷◌, ◌++◌, eqb, length, get_or, drop, Option, Some, None}
use Rattle.std.proofs.Math.Seq.{slice}
use Rattle.laws.specs.Lists.{column}
use Rattle.words.specs.declared.Instruction.{Instruction}
use Rattle.words.specs.Frames.{DESTINATION, SOURCE, VALUE}
use Rattle.syntax.specs.Pieces.{Class, byte, pattern, width_in, place_in, is_hex, number_in}
use Rattle.syntax.specs.Pieces.Class.{digit as any}
use Rattle.syntax.specs.Forms.{Form, pieces_of, forms}
use Rattle.syntax.specs.Reading.{Line, found, unread, read_line}

-- what a line reads as
abbrev pub line_of : Option Instruction → Line
line_of None = unread
line_of (Some i) = found i

-- a pattern as bytes: a small a stands for any digit, and 0, behind the end, for any byte

abbrev pub codes : List Class → List ℕ
codes [] = []
codes (byte x ∷ k) = x ∷ codes k
codes (any ∷ k) = 97 ∷ codes k

abbrev pub pad : ℕ → List ℕ → List ℕ
pad zero l = []
pad (suc n) [] = 0 ∷ pad n []
pad (suc n) (x ∷ l) = x ∷ pad n l

-- the pattern; its length, row, bit 26 and byte number; place and width of each part
unfoldable pub entry_of : Form → List ℕ
entry_of f =
    let p = pieces_of f in
    let k = codes (pattern p) in
    pad 16 k ++
    (length k ∷ f.row ∷ f.flag ∷ f.number ∷
    place_in p DESTINATION ∷ width_in p DESTINATION ∷ place_in p SOURCE ∷ width_in p SOURCE ∷ place_in p VALUE ∷ width_in p VALUE ∷
    0 ∷ 0 ∷ 0 ∷ 0 ∷ 0 ∷ 0 ∷ [])

abbrev pub joined : List (List ℕ) → List ℕ
joined [] = []
joined (x ∷ xs) = x ++ joined xs

unfoldable pub form_table : List ℕ
form_table = joined (column entry_of forms)

-- What the code does by the table, whatever it holds

unfoldable pub admits : ℕ → ℕ → Bool
admits p b = (eqb p b || (eqb p 97 && is_hex b)) || eqb p 0

-- n bytes of x from `at` on have the pattern that stands from `from` on
abbrev pub matching : ℕ → List ℕ → ℕ → List ℕ → ℕ → Bool
matching zero t from x at = true
matching (suc n) t from x at = matching n t from x at && admits (get_or t (from + n) 0) (get_or x (at + n) 0)

-- the pattern from `from` on takes any byte behind its first n
abbrev pub Padded : List ℕ → ℕ → ℕ → Type 0
Padded t from n = (j : ℕ) → n ≤ j → j < 16 → get_or t (from + j) 0 ≡ 0

unfoldable pub is_form_in : List ℕ → ℕ → List ℕ → ℕ → ℕ → Bool
is_form_in t q x at n = eqb (get_or t (32 * q + 16) 0) n && matching n t (32 * q) x at

-- the digits of the part whose place and width stand at k are among the first n bytes of a text, and not too many
abbrev pub Shown : List ℕ → ℕ → ℕ → ℕ → Type 0
Shown t k at n = (at + (get_or t k 0 + get_or t (k + 1) 0) ≤ n) × (get_or t (k + 1) 0 ≤ 7)

-- the number that a line shows where the table says so at k
unfoldable pub part_in : List ℕ → ℕ → List ℕ → ℕ
part_in t k l = number_in (get_or t (k + 1) 0) (drop (get_or t k 0) l)

unfoldable pub read_in : List ℕ → ℕ → List ℕ → Instruction
read_in t q l =
    record {
      row = get_or t (32 * q + 17) 0;
      flag = get_or t (32 * q + 18) 0;
      destination = part_in t (32 * q + 20) l;
      source = part_in t (32 * q + 22) l;
      number = get_or t (32 * q + 19) 0;
      value = part_in t (32 * q + 24) l;
    }

-- the n bytes of t from `at` on are in form q, by which they are read; or in none
pub record Ready (t : List ℕ) (at n q : ℕ) : Type 0 where
  pub below : q < 186
  pub upper : Shown form_table (32 * q + 20) at (length t)
  pub lower : Shown form_table (32 * q + 22) at (length t)
  pub rest : Shown form_table (32 * q + 24) at (length t)
  pub reads : found (read_in form_table q (drop at t)) ≡ read_line (slice at (at + n) t)

abbrev pub Finds : List ℕ → ℕ → ℕ → Option ℕ → Type 0
Finds t at n None = unread ≡ read_line (slice at (at + n) t)
Finds t at n (Some q) = Ready t at n q
