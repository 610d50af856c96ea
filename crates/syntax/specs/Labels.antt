-- Labels and what they stand for: document 02, K1.
use Rattle.std.specs.Prelude.{ℕ, suc, Bool, false, ◌||◌, List, [], ◌∷◌, ◌++◌, eqb, length, take, drop}
use Rattle.laws.specs.Choice.{pick}
use Rattle.words.specs.declared.Instruction.{Instruction}
use Rattle.syntax.specs.Digits.{hex}
use Rattle.syntax.specs.Pieces.{equal}
use Rattle.syntax.specs.Reading.{Line, found, unread, read_line}
use Rattle.syntax.specs.Lines.{space, letters_of, is_label, labelled, counts}

-- a label, and the address of its line's word, or of the next word where the label is alone
pub record Label : Type 0 where
  pub name : List ℕ
  pub address : ℕ

abbrev pub label : List ℕ → ℕ → Label
label name address = record { name = name; address = address }

-- "Labels are gathered first, from every line that starts with a label and its colon": the last one first, after those that were seen; a is the address of the
-- next word
unfoldable pub gathered : List Label → ℕ → List (List ℕ) → List Label
gathered seen a [] = seen
gathered seen a (l ∷ ls) =
    gathered (pick (labelled l) (label (letters_of l) a ∷ seen) seen) (pick (counts l) (suc a) a) ls

-- the address of the label of this name, if there is one
pub data Found : Type 0 where
  at : ℕ → Found
  nowhere : Found

unfoldable pub address_of : List Label → List ℕ → Found
address_of [] s = nowhere
address_of (x ∷ xs) s = pick (equal x.name s) (at x.address) (address_of xs s)

-- "a doubled one is reported, at the first line that repeats any": its number, where the lines are numbered from k on and labels of these names were seen; 0
-- where none does
abbrev pub known : List (List ℕ) → List ℕ → Bool
known [] s = false
known (x ∷ xs) s = equal x s || known xs s

unfoldable pub repeats : List (List ℕ) → ℕ → List (List ℕ) → ℕ
repeats names k [] = 0
repeats names k (l ∷ ls) =
    let s = letters_of l in
    pick (labelled l) (pick (known names s) k (repeats (s ∷ names) (suc k) ls)) (repeats names (suc k) ls)

-- "a label wherever a target may stand": small letters right after a line's first space. With six digits in their place the line is in a form just where a
-- target stands there: no other operand is six digits without a mark.

-- how many bytes stand before the first space
unfoldable pub name_length : List ℕ → ℕ
name_length [] = 0
name_length (b ∷ l) = pick (eqb b space) 0 (suc (name_length l))

unfoldable pub operands_of : List ℕ → List ℕ
operands_of l = drop (suc (name_length l)) l

-- the label there; empty where there is none
unfoldable pub target_of : List ℕ → List ℕ
target_of l = let s = letters_of (operands_of l) in pick (is_label s) s []

-- the line with the six digits of an address for the label
unfoldable pub with_address : ℕ → List ℕ → List ℕ
with_address a l = take (suc (name_length l)) l ++ (hex 6 a ++ drop (length (target_of l)) (operands_of l))

-- What a line gives: an instruction, or the number of a refusal.
pub data Given : Type 0 where
  given : Instruction → Given
  bad : ℕ → Given

abbrev pub set_target : Instruction → ℕ → Instruction
set_target i a =
    record { row = i.row; flag = i.flag; destination = i.destination; source = i.source; number = i.number; value = a }

-- "25 unknown label, 26 line not in the form"; "at one line 26 comes before 25"

abbrev pub plainly : Line → Given
plainly (found i) = given i
plainly unread = bad 26

abbrev pub aimed : Instruction → Found → Given
aimed i (at a) = given (set_target i a)
aimed i nowhere = bad 25

abbrev pub labelwise : Line → Found → Given
labelwise (found i) a = aimed i a
labelwise unread a = bad 26

unfoldable pub given_by : List Label → List ℕ → Given
given_by labels l =
    let s = target_of l in
    pick (eqb (length s) 0) (plainly (read_line l)) (labelwise (read_line (with_address 0 l)) (address_of labels s))
