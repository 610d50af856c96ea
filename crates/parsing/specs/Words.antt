-- A text of words, one a line: docs/commands.md, the inputs of 'yam run' and WORDS of 'yam pack'.
use Rattle.std.specs.Prelude.{ℕ, suc, ◌+◌, ◌-◌, ◌*◌, ◌&&◌, List, [], ◌∷◌, ◌++◌, Result, Ok, Err, eqb, leb, ltb, length}
use Rattle.std.proofs.lemmas.List.Edits.{sets}
use Rattle.laws.specs.Choice.{pick}
use Rattle.syntax.specs.Digits.{hex}
use Rattle.syntax.specs.Lines.{newline}
use Rattle.parsing.specs.declared.BadLine.{BadLine}
use Rattle.parsing.specs.Decimals.{is_digit}

-- what a text gives
pub data Reading : Type 0 where
  good : List ℕ → Reading  -- its words
  bad : ℕ → Reading  -- the number of its first line in another form, "counted from 1"

-- the value of a hex digit, "small or capital"; 16 of another byte
unfoldable pub hex_value : ℕ → ℕ
hex_value b = pick (is_digit b) (b - 48) (pick (leb 65 b && leb b 70) (b - 55) (pick (leb 97 b && leb b 102) (b - 87) 16))

-- a line that is word w, before what the lines after it give
abbrev pub before : ℕ → Reading → Reading
before w (good ws) = good (w ∷ ws)
before w (bad k) = bad (suc k)

-- What bytes give that follow on d digits of value v in their line: "on each line one word, 1 to 8 hex digits"; "the last line may lack its newline"; "a
-- line in another form, an empty one too".
unfoldable pub words_from : ℕ → ℕ → List ℕ → Reading
words_from d v [] = good (pick (eqb d 0) [] (v ∷ []))
words_from d v (b ∷ t) =
    pick (eqb b newline)
    (pick (eqb d 0) (bad 1) (before v (words_from 0 0 t)))
    (pick (ltb (hex_value b) 16 && ltb d 8) (words_from (suc d) (16 * v + hex_value b) t) (bad 1))

-- "the empty text has no line"
unfoldable pub words_in : List ℕ → Reading
words_in t = words_from 0 0 t

-- What a call answers and leaves in the words lent: how many words the text has, and as many of them as there is room for, from place 0 on; or the bad line,
-- and the words as they were.
pub record Call : Type 0 where
  pub answer : Result ℕ BadLine
  pub words : List ℕ

abbrev pub call : Result ℕ BadLine → List ℕ → Call
call r ws = record { answer = r; words = ws }

abbrev pub call_of : Reading → List ℕ → Call
call_of (good ws) lent = call (Ok (length ws)) (sets lent 0 ws)
call_of (bad k) lent = call (Err (record { line = k })) lent

-- words as such a text, hex 8
unfoldable pub printed : List ℕ → List ℕ
printed [] = []
printed (w ∷ ws) = hex 8 w ++ (newline ∷ printed ws)
