-- The numbers that stop a step, 4 to 15, in the table's order: document 01, 'Numbers of refusal and stop'; and 27, document 02's K4, "after 9 and before
-- 10".
use Rattle.std.specs.Prelude.{ℕ, ◌+◌, ◌*◌, ◌&&◌, ◌||◌, List, [], ◌∷◌, ◌++◌, eqb, length, get_or}
use Rattle.laws.specs.Test.{Test, less, most, same, isnt, yes?, if?, ◌and◌, member}
use Rattle.words.specs.declared.Instruction.{Instruction}
use Rattle.words.specs.declared.Facts.{Facts}
use Rattle.words.specs.Rows.{row_at}
use Rattle.words.specs.Words.{parts_of, refusals567}
use Rattle.words.specs.Kinds.{Kind}
use Rattle.words.specs.Facts.{facts_for}
use Rattle.state.specs.State.{Env, State, stack_limit}
use Rattle.state.specs.Context.{wp_in}
use Rattle.state.specs.Operands.{View, view_of, register, data_address}

-- the special registers that MOV %d,%s reads in special-register mode
abbrev pub specials : List ℕ
specials = 0 ∷ 1 ∷ 2 ∷ 3 ∷ 7 ∷ []

-- 8 "in special-register mode: anything but MOV %d,%s with s 0, 1, 2, 3 or 7, and SPR_OFF"
abbrev pub stop8 : ℕ → ℕ → Facts → Test
stop8 mode source f = if? (eqb mode 1) (yes? (f.leaves || f.reveals && member source specials))

module _ (v : View) (i : Instruction) (f : Facts) where
  -- 9 "port read straight after a port write to another address"
  abbrev pub stop9 : Test
  stop9 = if? (f.input && eqb v.core.posted 1) (same v.core.port (register v i.source))

  -- 27 "The machine now remembers if an LDYX has run since reset; MOVX before that is a stop."
  abbrev pub stop27 : Test
  stop27 = if? f.index (isnt v.core.loaded 0)

  -- 10 "call with the return stack full"
  abbrev pub stop10 : Test
  stop10 = if? f.calls (less v.core.depth (stack_limit v.config.pcstack))

  -- 11 "return with it empty"
  abbrev pub stop11 : Test
  stop11 = if? f.returns (less 0 v.core.depth)

  -- 12 "new WP + REG_SIZE > RM_SIZE"
  abbrev pub stop12 : Test
  stop12 =
      if? f.tobank (most (16 * i.destination + v.config.regsize) v.config.rmsize) and
      if? f.frombank (most (wp_in (register v 0) + v.config.regsize) v.config.rmsize)

  -- 13 "data address from a register ≥ DM_SIZE": the source's where it is read, the destination's where it is written
  abbrev pub stop13 : Test
  stop13 =
      if? (f.indirect && f.load) (less (data_address (register v i.source)) v.config.dmsize) and
      if? (f.indirect && f.store) (less (data_address (register v i.destination)) v.config.dmsize)

  -- 14 "no reading left"
  abbrev pub stop14 : Test
  stop14 = if? f.input (less v.core.taken (length v.inputs))

  -- 15 "no room in the log"
  abbrev pub stop15 : Test
  stop15 = if? f.output (less v.core.logged v.room)

  -- in their order, 27 among them
  unfoldable pub stops9to15 : List (ℕ × Test)
  stops9to15 = (9, stop9) ∷ (27, stop27) ∷ (10, stop10) ∷ (11, stop11) ∷ (12, stop12) ∷ (13, stop13) ∷ (14, stop14) ∷ (15, stop15) ∷ []

-- the instruction at PC, as far as it can be read, its kind, and what is asked of that
abbrev pub parts_at : Env → State → Instruction
parts_at e s = parts_of e.config (get_or e.image s.core.pc 0)

abbrev pub kind_at : Env → State → Kind
kind_at e s = (row_at (parts_at e s).row).kind

abbrev pub facts_at : Env → State → Facts
facts_at e s = facts_for (kind_at e s)

-- 4 "PC ≥ IM_SIZE"; 5, 6, 7 as for reading; 8, 9, 27, 10 to 15
unfoldable pub stops : Env → State → List (ℕ × Test)
stops e s =
    let i = parts_at e s in
    let f = facts_at e s in
    (4, less s.core.pc e.config.imsize) ∷
    (refusals567 e.config (row_at i.row) i ++ ((8, stop8 s.core.mode i.source f) ∷ stops9to15 (view_of e s) i f))
