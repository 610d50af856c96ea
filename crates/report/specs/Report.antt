-- The report of a run (docs/commands.md, 'yam run').
use Rattle.std.specs.Prelude.{ℕ, List, ◌++◌, eqb, take}
use Rattle.laws.specs.Choice.{pick}
use Rattle.words.specs.declared.Config.{Config}
use Rattle.state.specs.declared.Core.{Core}
use Rattle.syntax.specs.Digits.{hex}
use Rattle.syntax.specs.Quoted.{quoted}
use Rattle.printing.specs.Numerals.{decimal}
use Rattle.report.specs.Fields.{line_text, lines_of, pointers, masks, counts, word_digits}
use Rattle.report.specs.Cells.{each_cell, each_pair, registers_from}

-- "hex 2 where RM_SIZE is REG_SIZE, hex 3 where there are banks"
unfoldable pub place_digits : Config → ℕ
place_digits c = pick (eqb c.rmsize c.regsize) 2 3

-- "ended", "steps", "cycles", "PC"
unfoldable pub outcome_text : ℕ → ℕ → ℕ → ℕ → List ℕ
outcome_text number steps cycles pc =
    line_text (quoted "ended") (decimal number) ++
    (line_text (quoted "steps") (decimal steps) ++ (line_text (quoted "cycles") (decimal cycles) ++ line_text (quoted "PC") (hex 6 pc)))

-- "stack .. a line for each of these, the oldest first", "eight cells of the register memory", "log .. a line for each filled place"
unfoldable pub lists_text : Config → Core → List ℕ → List ℕ → List ℕ → List ℕ → List ℕ
lists_text c m stack registers addresses values =
    each_cell (quoted "stack ") 6 (quoted "\n") (take m.depth stack) ++
    (registers_from (place_digits c) (word_digits c) 0 registers ++
    each_pair (quoted "log ") (word_digits c) (quoted " ") (quoted "\n") (take m.logged addresses) (take m.logged values))

unfoldable pub report_of : Config → ℕ → ℕ → ℕ → Core → List ℕ → List ℕ → List ℕ → List ℕ → List ℕ
report_of c number steps cycles m stack registers addresses values =
    outcome_text number steps cycles m.pc ++
    (lines_of pointers m ++ (lines_of (masks c) m ++ (lines_of (counts c) m ++ lists_text c m stack registers addresses values)))
