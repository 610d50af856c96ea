-- What rules, stops and cycles ask of an instruction: the marks of its kind (Kinds), as code hands them on.
use Rattle.std.specs.Prelude.{ℕ, Bool, false, ◌||◌, List, [], ◌∷◌}
use Rattle.laws.specs.Choice.{decided}
use Rattle.words.specs.declared.Facts.{Facts}
use Rattle.words.specs.Kinds.{Kind, marks_of, Mark, Mark-discrete, goes_on, jumps, calls, returns, enters_mode, leaves_mode, reveals, reads_port, writes_port, loads, stores, by_register, enters_bank, leaves_bank, barred, by_index}
use Rattle.words.specs.Rows.{row_at}

-- m is among the marks
abbrev pub has : List Mark → Mark → Bool
has [] m = false
has (x ∷ xs) m = decided (Mark-discrete x m) || has xs m

unfoldable pub facts_for : Kind → Facts
facts_for k =
    let ms = marks_of k in
    record {
      next = has ms goes_on;
      target = has ms jumps;
      calls = has ms calls;
      returns = has ms returns;
      enters = has ms enters_mode;
      leaves = has ms leaves_mode;
      reveals = has ms reveals;
      input = has ms reads_port;
      output = has ms writes_port;
      load = has ms loads;
      store = has ms stores;
      indirect = has ms by_register;
      tobank = has ms enters_bank;
      frombank = has ms leaves_bank;
      barred = has ms barred;
      index = has ms by_index;
    }

-- of row n
abbrev pub facts_of : ℕ → Facts
facts_of n = facts_for (row_at n).kind
