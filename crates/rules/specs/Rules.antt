-- The eight rules: document 01, 'The sheet', in its words and order. x is the mark of the address, f
-- are the facts of its word. Main and normal mean bits 6 and 7 at 0.
use Rattle.std.specs.Prelude.{ℕ, ◌+◌, Bool, ◌&&◌, List, [], ◌∷◌, eqb, get_or}
use Rattle.laws.specs.Choice.{pick}
use Rattle.laws.specs.Test.{Test, less, most, same, yes?, no?, if?, ◌and◌}
use Rattle.words.specs.declared.Config.{Config}
use Rattle.words.specs.declared.Facts.{Facts}
use Rattle.words.specs.Words.{Read, read_lawful}
use Rattle.words.specs.Facts.{facts_of}
use Rattle.state.specs.State.{stack_limit}
use Rattle.state.specs.Stops.{stop8}
use Rattle.rules.specs.Marks.{mark_at, used, level_of, sub_of, mode_of}
use Rattle.rules.specs.Successors.{Successor, successors, for_each}

-- "1. Address 0 is used, main, normal mode."
abbrev pub rule1 : ℕ → Test
rule1 x = yes? (used x) and same (sub_of x) 0 and same (mode_of x) 0

-- "2. Each used level is at most L." "L is the stack's limit."
abbrev pub rule2 : Config → ℕ → Test
rule2 c x = most (level_of x) (stack_limit c.pcstack)

-- "3. Each used word can be read and is no JMP @, JSR @, JSRWP or RETWP." number is what reading it
-- answers.
abbrev pub rule3 : ℕ → Facts → Test
rule3 number f = same number 0 and no? f.barred

-- the mode that a word leaves: special after SPR_ON, "after SPR_OFF normal", "else the mode stays"
abbrev pub mode_after : Facts → ℕ → ℕ
mode_after f mode = pick f.enters 1 (pick f.leaves 0 mode)

-- `mark` gives the mark of an address; ss are the word's successors
module _ (mark : ℕ → ℕ) (ss : List Successor) where
  -- "4. Each successor is below IM_SIZE and used": which they are, Successors says
  abbrev pub rule4 : ℕ → Test
  rule4 size = for_each mark ss λ s y. less s.address size and yes? (used y)

  -- "5. A JSR's target is a subroutine; its next, even where that is the target too, and every other
  -- word's successors keep the main or subroutine mark. RET and RLD stand in subroutines."
  abbrev pub rule5 : Facts → ℕ → Test
  rule5 f x =
      for_each mark ss (λ s y. same (sub_of y) (pick s.by_call 1 (sub_of x))) and
      if? f.returns (same (sub_of x) 1)

  -- "6. A successor's level is no higher; a JSR target's is lower."
  abbrev pub rule6 : ℕ → Test
  rule6 x =
      for_each mark ss λ s y. most (level_of y) (level_of x) and if? s.by_call (less (level_of y) (level_of x))

  -- "7. SPR_ON stands in normal mode, its successor in special mode; after SPR_OFF normal; in special
  -- mode only what stop 8 allows; else the mode stays." source is the word's source register.
  abbrev pub rule7 : Facts → ℕ → ℕ → Test
  rule7 f source x =
      if? f.enters (same (mode_of x) 0) and
      stop8 (mode_of x) source f and
      for_each mark ss (λ s y. same (mode_of y) (mode_after f (mode_of x)))

-- "8. No port write or IORMW has a port read or IORMW next." reads: the next word is one.
abbrev pub rule8 : Facts → Bool → Test
rule8 f reads = if? f.output (no? reads)

-- The rules at address a, whose word reads as r; "Rules 2 to 8 bind used addresses."
unfoldable pub rules : Config → (ℕ → ℕ) → ℕ → Read → Facts → Bool → List (ℕ × Test)
rules c mark a r f reads =
    let x = mark a in
    let ss = successors f a r.instruction.value in
    (1, if? (eqb a 0) (rule1 x)) ∷
    (2, if? (used x) (rule2 c x)) ∷
    (3, if? (used x) (rule3 r.number f)) ∷
    (4, if? (used x) (rule4 mark ss c.imsize)) ∷
    (5, if? (used x) (rule5 mark ss f x)) ∷
    (6, if? (used x) (rule6 mark ss x)) ∷
    (7, if? (used x) (rule7 mark ss f r.instruction.source x)) ∷
    (8, if? (used x) (rule8 f reads)) ∷
    []

-- The word at address a as it is read. Of one that cannot be read, all parts are zero; it breaks
-- rule 3, and what the rules after 3 say of it is never answered.
abbrev pub read_at : Config → List ℕ → ℕ → Read
read_at c image a = read_lawful c (get_or image a 0)

abbrev pub facts_at : Config → List ℕ → ℕ → Facts
facts_at c image a = facts_of (read_at c image a).instruction.row

-- the word at a can be read and is a port read or IORMW
abbrev pub reads_port : Config → List ℕ → ℕ → Bool
reads_port c image a = eqb (read_at c image a).number 0 && (facts_at c image a).input

abbrev pub rules_at : Config → List ℕ → List ℕ → ℕ → List (ℕ × Test)
rules_at c image certificate a =
    rules c (mark_at certificate) a (read_at c image a) (facts_at c image a) (reads_port c image (a + 1))
