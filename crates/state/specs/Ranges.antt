-- The refusals before a step: 1 configuration, 2 lengths, 3 ranges; and 16, a run's budget. Document 01, 'One step': "A record is in its ranges when".
use Rattle.std.specs.Prelude.{ℕ, ◌+◌, ◌%◌, List, [], ◌∷◌, ◌++◌, eqb, length, drop}
use Rattle.laws.specs.Test.{Test, less, most, same, each, if?, ◌and◌}
use Rattle.words.specs.declared.Config.{Config}
use Rattle.words.specs.Configs.{lawful}
use Rattle.state.specs.declared.Core.{Core}
use Rattle.state.specs.State.{Env, State, top, stack_limit}

-- "image, register memory, data memory .. is not IM_SIZE, RM_SIZE, DM_SIZE .. long; the log's two lists differ in length"
abbrev pub lengths : Config → ℕ → ℕ → ℕ → ℕ → ℕ → Test
lengths c image registers memory addresses values =
    same image c.imsize and same registers c.rmsize and same memory c.dmsize and same addresses values

-- "PC < 2^23; WP is a multiple of 16 with WP + REG_SIZE ≤ RM_SIZE; RX and RY < REG_SIZE". K4: "The record says loaded or not, and RX and RY are 0 until
-- loaded"
abbrev pub places : Config → Core → Test
places c m =
    less m.pc 0x800000 and
    same (m.wp % 16) 0 and
    most (m.wp + c.regsize) c.rmsize and
    less m.rx c.regsize and
    less m.ry c.regsize and
    most m.loaded 1 and
    if? (eqb m.loaded 0) (same m.rx 0 and same m.ry 0)

-- "flags, mode and posted mark are 0 or 1; masks ≤ 15; SPR7 < 2^W, and 0 at W = 32"
abbrev pub marks : Config → Core → Test
marks c m =
    most m.n 1 and
    most m.z 1 and
    most m.mode 1 and
    most m.posted 1 and
    most m.imask 15 and
    most m.saved 15 and
    less m.spr7 (top c) and
    if? (eqb c.regwidth 32) (same m.spr7 0)

-- "the stack holds no more than its limit"; "the posted address < 2^W, 0 when none is posted; positions are at most their lists' lengths"
abbrev pub positions : Config → Core → ℕ → ℕ → Test
positions c m inputs room =
    most m.depth (stack_limit c.pcstack) and
    less m.port (top c) and
    if? (eqb m.posted 0) (same m.port 0) and
    most m.taken inputs and
    most m.logged room

-- "each address ≤ IM_SIZE, zeros above them", "or a memory cell ≥ 2^W"
abbrev pub cells : Config → State → Test
cells c s =
    each (c.imsize + 1) s.stack and
    each 1 (drop s.core.depth s.stack) and
    each (top c) s.registers and
    each (top c) s.memory

unfoldable pub in_ranges : Env → State → Test
in_ranges e s =
    places e.config s.core and
    marks e.config s.core and
    positions e.config s.core (length e.inputs) (length s.addresses) and
    cells e.config s

-- 1, 2, 3
unfoldable pub guards : Env → State → List (ℕ × Test)
guards e s =
    (1, lawful e.config) ∷ (
      2,
      lengths e.config (length e.image) (length s.registers) (length s.memory) (length s.addresses) (length s.values),
    ) ∷
    (3, in_ranges e s) ∷
    []

-- "16: run's step budget above 1,000,000"
abbrev pub budget_fits : ℕ → Test
budget_fits b = most b 1000000

-- 1, 2, 3, 16: what a run call is refused by
abbrev pub run_guards : ℕ → Env → State → List (ℕ × Test)
run_guards budget e s = guards e s ++ ((16, budget_fits budget) ∷ [])
