-- The lines of a source text, and the labels that lines start with: document 02, K1.
use Rattle.std.specs.Prelude.{ℕ, suc, Bool, false, not, ◌&&◌, ◌||◌, List, [], ◌∷◌, eqb, leb, ltb, length, drop}
use Rattle.laws.specs.Choice.{pick}

abbrev pub newline : ℕ
newline = 10

abbrev pub space : ℕ
space = 32

abbrev pub colon : ℕ
colon = 58

-- "Newlines part lines": the last line may lack its newline, and a final newline makes one more, empty

abbrev pub onto : ℕ → List (List ℕ) → List (List ℕ)
onto b [] = (b ∷ []) ∷ []
onto b (l ∷ ls) = (b ∷ l) ∷ ls

unfoldable pub lines_of : List ℕ → List (List ℕ)
lines_of [] = [] ∷ []
lines_of (b ∷ t) = pick (eqb b newline) ([] ∷ lines_of t) (onto b (lines_of t))

-- "labels of 1 to 12 small letters, at least one of them beyond f"

unfoldable pub is_small : ℕ → Bool
is_small b = leb 97 b && leb b 122

-- the small letters that a line starts with
unfoldable pub letters_of : List ℕ → List ℕ
letters_of [] = []
letters_of (b ∷ l) = pick (is_small b) (b ∷ letters_of l) []

unfoldable pub beyond : List ℕ → Bool
beyond [] = false
beyond (b ∷ l) = ltb 102 b || beyond l

unfoldable pub is_label : List ℕ → Bool
is_label s = leb (length s) 12 && beyond s

-- "followed by a colon, alone on a line or one space before an instruction"

unfoldable pub starts : ℕ → List ℕ → Bool
starts b [] = false
starts b (x ∷ l) = eqb x b

-- a line that starts with a label and its colon
unfoldable pub labelled : List ℕ → Bool
labelled l = let s = letters_of l in is_label s && starts colon (drop (length s) l)

-- what stands behind the colon
unfoldable pub behind_label : List ℕ → List ℕ
behind_label l = drop (suc (length (letters_of l))) l

unfoldable pub lone : List ℕ → Bool
lone l = labelled l && eqb (length (behind_label l)) 0

-- the instruction of a line. Where no space follows the colon it is the whole line, which is in no form, as no form has a colon.
unfoldable pub body_of : List ℕ → List ℕ
body_of l = pick (labelled l && starts space (behind_label l)) (drop 1 (behind_label l)) l

-- "all but empty lines and lone labels count as one word"
unfoldable pub counts : List ℕ → Bool
counts l = not (eqb (length l) 0 || lone l)
