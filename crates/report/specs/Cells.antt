-- Cells of the memories, the return stack and the log, as report and trace print them (docs/commands.md).
use Rattle.std.specs.Prelude.{ℕ, suc, ◌%◌, List, [], ◌∷◌, ◌++◌, eqb}
use Rattle.laws.specs.Choice.{pick}
use Rattle.syntax.specs.Digits.{hex}
use Rattle.syntax.specs.Quoted.{quoted}
use Rattle.report.specs.Fields.{change_text}

-- each cell with w digits, and what stands before and behind it
unfoldable pub each_cell : List ℕ → ℕ → List ℕ → List ℕ → List ℕ
each_cell before w after [] = []
each_cell before w after (x ∷ xs) = (before ++ (hex w x ++ after)) ++ each_cell before w after xs

-- each place of the log: address and value, w digits each, and what stands before, between and behind them
unfoldable pub each_pair : List ℕ → ℕ → List ℕ → List ℕ → List ℕ → List ℕ → List ℕ
each_pair before w between after [] vs = []
each_pair before w between after (a ∷ rest) [] = []
each_pair before w between after (a ∷ rest) (v ∷ vs) =
    (before ++ (hex w a ++ (between ++ (hex w v ++ after)))) ++ each_pair before w between after rest vs

-- "`%` and a place: eight cells of the register memory from there on, each a space and hex W/4"; d digits of the place
unfoldable pub name_text : ℕ → ℕ → List ℕ
name_text d i = pick (eqb (i % 8) 0) (quoted "%" ++ hex d i) []

unfoldable pub end_text : ℕ → List ℕ
end_text i = pick (eqb (i % 8) 7) (quoted "\n") []

unfoldable pub register_text : ℕ → ℕ → ℕ → ℕ → List ℕ
register_text d w i x = name_text d i ++ (quoted " " ++ (hex w x ++ end_text i))

unfoldable pub registers_from : ℕ → ℕ → ℕ → List ℕ → List ℕ
registers_from d w i [] = []
registers_from d w i (x ∷ xs) = register_text d w i x ++ registers_from d w (suc i) xs

-- "each register that holds another value than before, in rising order: its name, `=`, hex W/4; each data memory cell likewise": the cells from i on,
-- old and new, named by the mark and d digits of the place
unfoldable pub cell_changes : List ℕ → ℕ → ℕ → ℕ → List ℕ → List ℕ → List ℕ
cell_changes mark d w i [] ys = []
cell_changes mark d w i (x ∷ xs) [] = []
cell_changes mark d w i (x ∷ xs) (y ∷ ys) = change_text (mark ++ hex d i) (hex w y) x y ++ cell_changes mark d w (suc i) xs ys
