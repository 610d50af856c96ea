-- Source text read into words: the answer, with its refusals in document 02's order (K1).
use Rattle.std.specs.Prelude.{ℕ, suc, Bool, List, [], ◌∷◌, eqb}
use Rattle.laws.specs.Choice.{pick}
use Rattle.laws.specs.Test.{Test, most, same, ◌and◌}
use Rattle.laws.specs.First.{first_failing}
use Rattle.words.specs.declared.Config.{Config}
use Rattle.words.specs.Configs.{lawful}
use Rattle.words.specs.Words.{Written, write_lawful}
use Rattle.syntax.specs.Lines.{lines_of, labelled, body_of, counts}
use Rattle.syntax.specs.Labels.{Label, gathered, repeats, Given, given, bad, given_by}

-- at one line 26, 25, "then 6 and 7 as for writing a word"

abbrev pub word_given : Config → Given → Written
word_given c (given i) = write_lawful c i
word_given c (bad n) = record { number = n; word = 0 }

unfoldable pub word_at : Config → List Label → List ℕ → Written
word_at c labels l = word_given c (given_by labels (body_of l))

-- The answer: document 02's number, 0 for a pass, the line that it names, 0 where it names none, and the words of a pass.
pub record Assembly : Type 0 where
  pub number : ℕ
  pub line : ℕ
  pub words : List ℕ

abbrev pub refused : ℕ → ℕ → Assembly
refused n k = record { number = n; line = k; words = [] }

abbrev pub passed : List ℕ → Assembly
passed ws = record { number = 0; line = 0; words = ws }

-- a word before those of the later lines; a refusal has none
abbrev pub before : ℕ → Assembly → Assembly
before w r = record { number = r.number; line = r.line; words = pick (eqb r.number 0) (w ∷ r.words) [] }

-- the lines numbered from k on: "the first bad line", or the words
unfoldable pub words_from : Config → List Label → ℕ → List (List ℕ) → Assembly
words_from c labels k [] = passed []
words_from c labels k (l ∷ ls) =
    let rest = words_from c labels (suc k) ls in
    let w = word_at c labels l in
    pick (counts l) (pick (eqb w.number 0) (before w.word rest) (refused w.number k)) rest

abbrev pub how_many : (List ℕ → Bool) → List (List ℕ) → ℕ
how_many p [] = 0
how_many p (l ∷ ls) = pick (p l) (suc (how_many p ls)) (how_many p ls)

-- "At most 1,024 lines may start with a label."
abbrev pub label_limit : ℕ
label_limit = 1024

-- The refusals before any line's own, in document 02's order: 1; 36 "more than 1,024 label lines, or more words than are lent"; 24 "doubled label". ls are the
-- lines, room is how many words are lent, twice the first line that repeats a label.
unfoldable pub source_refusals : Config → List (List ℕ) → ℕ → ℕ → List (ℕ × Test)
source_refusals c ls room twice =
    (1, lawful c) ∷ (36, most (how_many labelled ls) label_limit and most (how_many counts ls) room) ∷ (24, same twice 0) ∷ []

-- What assembling a text answers.
unfoldable pub assemble_of : Config → List ℕ → ℕ → Assembly
assemble_of c text room =
    let ls = lines_of text in
    let twice = repeats [] 1 ls in
    let n = first_failing (source_refusals c ls room twice) in
    pick (eqb n 0) (words_from c (gathered [] 0 ls) 1 ls) (refused n (pick (eqb n 24) twice 0))
