-- What is proved of texts beside the equations: printed and read back, both ways ("Demand 2 now covers text").
use Rattle.std.specs.Prelude.{ℕ, ◌<◌, ◌≤◌, ◌≡◌, false, List, [], ◌∷◌, ◌++◌, eqb, length}
use Rattle.laws.specs.Choice.{pick}
use Rattle.laws.specs.Lists.{column}
use Rattle.laws.specs.Test.{Holds}
use Rattle.words.specs.declared.Config.{Config}
use Rattle.words.specs.declared.Instruction.{Instruction}
use Rattle.words.specs.Configs.{lawful}
use Rattle.words.specs.Claims.{understood}
use Rattle.words.specs.Words.{read_of}
use Rattle.syntax.specs.Forms.{text_of}
use Rattle.syntax.specs.Reading.{found, unread, read_line}
use Rattle.syntax.specs.Lines.{newline, lines_of, labelled, body_of, counts}
use Rattle.syntax.specs.Labels.{Label, gathered, Found, at, nowhere, address_of, target_of, with_address, set_target}
use Rattle.syntax.specs.Assembly.{passed, assemble_of}

-- One line

-- The text of a word that can be read, read back, gives its instruction; and writing that gives the word (words, ReadThenWrite).
abbrev pub PrintThenRead : Type 0
PrintThenRead = (c : Config) (w : ℕ) (i : Instruction) → read_of c w ≡ understood i → read_line (text_of c i) ≡ found i

-- A line that is read is the text of what was read.
abbrev pub ReadThenPrint : Type 0
ReadThenPrint = (c : Config) (l : List ℕ) (i : Instruction) → read_line l ≡ found i → text_of c i ≡ l

-- A line that is in no form (26) is the text of no word that can be read.
abbrev pub UnreadNone : Type 0
UnreadNone = (c : Config) (l : List ℕ) (w : ℕ) (i : Instruction) → read_line l ≡ unread → read_of c w ≡ understood i → text_of c i ≡ l → ⊥

-- Whole texts

abbrev pub text_of_word : Config → ℕ → List ℕ
text_of_word c w = text_of c (read_of c w).instruction

-- the texts of words, one a line
unfoldable pub source_of : Config → List ℕ → List ℕ
source_of c [] = []
source_of c (w ∷ ws) = text_of_word c w ++ (newline ∷ source_of c ws)

-- every word can be read
abbrev pub Readable : Config → List ℕ → Type 0
Readable c [] = Unit {0}
Readable c (w ∷ ws) = (w < 0x100000000) × ((read_of c w).number ≡ 0) × Readable c ws

-- "Text printed by the listing, read back, gives the same words for every word that can be read."
abbrev pub ListedBack : Type 0
ListedBack =
    (c : Config) (ws : List ℕ) (room : ℕ) → Holds (lawful c) → Readable c ws → length ws ≤ room → assemble_of c (source_of c ws) room ≡ passed ws

-- no line starts with a label
abbrev pub Unlabelled : List (List ℕ) → Type 0
Unlabelled [] = Unit {0}
Unlabelled (l ∷ ls) = (labelled l ≡ false) × Unlabelled ls

-- the lines that count as words
unfoldable pub counting : List (List ℕ) → List (List ℕ)
counting [] = []
counting (l ∷ ls) = pick (counts l) (l ∷ counting ls) (counting ls)

-- The other way: where a text without labels is assembled, the text of each word is the line that it came from.
abbrev pub AssembledBack : Type 0
AssembledBack =
    (c : Config) (text : List ℕ) (room : ℕ) → Unlabelled (lines_of text) → (assemble_of c text room).number ≡ 0 →
    column (text_of_word c) (assemble_of c text room).words ≡ counting (lines_of text)

-- Labels

-- Labels mean addresses: the six digits of a label's address in its place give the same instruction.
abbrev pub LabelsMean : Type 0
LabelsMean =
    (l : List ℕ) (a : ℕ) (i : Instruction) → eqb (length (target_of l)) 0 ≡ false → a < 0x1000000 → read_line (with_address 0 l) ≡ found i →
    read_line (with_address a l) ≡ found (set_target i a)

-- The same over whole texts: an instruction with the six digits of its label's address for the label; as it stands where it has no label, or an unknown one

abbrev pub replaced : List ℕ → Found → List ℕ
replaced b (at a) = with_address a b
replaced b nowhere = b

unfoldable pub resolved_body : List Label → List ℕ → List ℕ
resolved_body labels b = let s = target_of b in pick (eqb (length s) 0) b (replaced b (address_of labels s))

-- a line without the label that it starts with, and resolved: empty where it does not count
unfoldable pub resolved_line : List Label → List ℕ → List ℕ
resolved_line labels l = pick (counts l) (resolved_body labels (body_of l)) []

-- lines, parted by newlines: lines_of, the other way
unfoldable pub unlined : List (List ℕ) → List ℕ
unlined [] = []
unlined (l ∷ []) = l
unlined (l ∷ (m ∷ ls)) = l ++ (newline ∷ unlined (m ∷ ls))

-- the text, line by line, with addresses for its labels
unfoldable pub resolved : List ℕ → List ℕ
resolved text = let ls = lines_of text in unlined (column (resolved_line (gathered [] 0 ls)) ls)

-- Where a text passes, putting the six digits of its address for each label gives the same words: a text that defines no label, with the same answer.
abbrev pub LabelsResolved : Type 0
LabelsResolved =
    (c : Config) (text : List ℕ) (room : ℕ) → (assemble_of c text room).number ≡ 0 →
    Unlabelled (lines_of (resolved text)) × (assemble_of c (resolved text) room ≡ assemble_of c text room)
