-- The line of a step (docs/commands.md, 'yam trace').
use Rattle.std.specs.Prelude.{ℕ, List, ◌++◌, take, drop}
use Rattle.words.specs.declared.Config.{Config}
use Rattle.state.specs.declared.Core.{Core}
use Rattle.syntax.specs.Quoted.{quoted}
use Rattle.printing.specs.Numerals.{decimal}
use Rattle.printing.specs.Entries.{entry_of}
use Rattle.report.specs.Fields.{changes_of, pointers, masks, counts, word_digits}
use Rattle.report.specs.Cells.{each_cell, each_pair, cell_changes}
use Rattle.report.specs.Report.{place_digits}

-- "its number from 1 on in decimal, a space, the cycles so far with it in decimal, a space, the listing's line of the word without its newline, ` ;`"
unfoldable pub step_text : Config → List ℕ → ℕ → ℕ → ℕ → List ℕ
step_text c image step cycles pc =
    decimal step ++ (quoted " " ++ (decimal cycles ++ (quoted " " ++ (entry_of c image pc ++ quoted " ;"))))

-- the places from n on of those that are filled
abbrev pub filled_from : ℕ → ℕ → List ℕ → List ℕ
filled_from n filled cells = drop n (take filled cells)

-- "`stack=` and hex 6 for an address that was pushed; each register that holds another value than before ..; each data memory cell likewise"
unfoldable pub changed_cells : Config → Core → Core → List ℕ → List ℕ → List ℕ → List ℕ → List ℕ → List ℕ
changed_cells c old new stack oldRegisters registers oldMemory memory =
    each_cell (quoted " stack=") 6 (quoted "") (filled_from old.depth new.depth stack) ++
    (cell_changes (quoted "%") (place_digits c) (word_digits c) 0 oldRegisters registers ++
    cell_changes (quoted "&") 4 (word_digits c) 0 oldMemory memory)

-- "`log=`, hex W/4 of the address, `:`, hex W/4 of the value for a place of the log that was filled"
unfoldable pub changed_log : Config → Core → Core → List ℕ → List ℕ → List ℕ
changed_log c old new addresses values =
    each_pair (quoted " log=") (word_digits c) (quoted ":") (quoted "") (filled_from old.logged new.logged addresses)
    (filled_from old.logged new.logged values)

-- the line of step `step`, with `cycles` so far, where the record was `old` and is `new`, and the memories likewise
unfoldable pub trace_line : Config → List ℕ → ℕ → ℕ → Core → Core → List ℕ → List ℕ → List ℕ → List ℕ → List ℕ → List ℕ → List ℕ → List ℕ
trace_line c image step cycles old new stack oldRegisters registers oldMemory memory addresses values =
    step_text c image step cycles old.pc ++
    (changes_of pointers old new ++
    (changes_of (masks c) old new ++
    (changes_of (counts c) old new ++
    (changed_cells c old new stack oldRegisters registers oldMemory memory ++ (changed_log c old new addresses values ++ quoted "\n")))))
