-- How the code goes about a step: the change that the instruction makes, or the stop. The laws of proofs/ tie it to state's definitions.
use Rattle.std.specs.Prelude.{ℕ, ◌+◌, ◌%◌, ◌<◌, ◌≤◌, ◌≡◌, List, [], ◌∷◌, ◌++◌, length, get_or}
use Rattle.laws.specs.Choice.{pick}
use Rattle.laws.specs.First.{first_failing}
use Rattle.laws.specs.Test.{Test, test, Holds}
use Rattle.words.specs.declared.Config.{Config}
use Rattle.words.specs.Configs.{lawful}
use Rattle.words.specs.declared.Instruction.{Instruction}
use Rattle.words.specs.declared.Operation.{Operation}
use Rattle.words.specs.Kinds.{Kind, compute, counted, enter_bank}
use Rattle.words.specs.Rows.{row_at}
use Rattle.words.specs.Words.{parts_of, refusals567}
use Rattle.words.specs.Facts.{facts_for, facts_of}
use Rattle.words.specs.Lookup.{entry_kind}
use Rattle.state.specs.declared.Core.{Core}
use Rattle.state.specs.declared.Change.{Change}
use Rattle.state.specs.State.{Env, State, top}
use Rattle.state.specs.Cores.{stopped}
use Rattle.state.specs.Operands.{View}
use Rattle.state.specs.Plans.{plan_of}
use Rattle.state.specs.Stops.{stop8, stops, stops9to15}
use Rattle.state.specs.Step.{plan_at}
use Rattle.cells.specs.Cell.{action_in, destination_in, source_in, value_in, Carries}

-- x, where no test of the list fails, else the stop of the first that does
abbrev pub unless : List (ℕ × Test) → Core → Change → Change
unless [] m x = x
unless (r ∷ rs) m x = pick (test r.1) (unless rs m x) (stopped m r.0)

-- the instruction's part of a step: stops 9 to 15 and 27, and the plan
unfoldable pub act : View → Instruction → Kind → Change
act v i k = unless (stops9to15 v i (facts_for k)) v.core (plan_of v i k)

-- the step's change
unfoldable pub change_at : Env → State → Change
change_at e s = unless (stops e s) s.core (plan_at e s)

-- the numbers 5 to 8 of word w, in their order
unfoldable pub verdict_of : Config → ℕ → ℕ → ℕ
verdict_of c mode w =
    let i = parts_of c w in
    first_failing (refusals567 c (row_at i.row) i ++ ((8, stop8 mode i.source (facts_of i.row)) ∷ []))

-- what the code asks of a core so that no sum is too large; a record in its ranges has it
pub record Small (m : Core) : Type 0 where
  pub pc : m.pc < 0x800000
  pub wp : m.wp ≤ 1024
  pub rx : m.rx ≤ 1024
  pub depth : m.depth ≤ 64

-- what it asks of the configuration and the registers: every register of the active bank is there, and holds a word
pub record Fit (c : Config) (m : Core) (registers : List ℕ) : Type 0 where
  pub lawful : Holds (lawful c)
  pub small : Small m
  pub index : m.wp + m.rx < length registers
  pub bank : m.wp < length registers
  pub words : (i : ℕ) → get_or registers i 0 < top c
  pub negative : m.n ≤ 1
  pub zero : m.z ≤ 1

-- the registers that cell x names are among `count`
pub record Placed (m : Core) (count x : ℕ) : Type 0 where
  pub wp : m.wp ≤ 1024
  pub upper : m.wp + destination_in x < count
  pub lower : m.wp + source_in x < count

-- the values of an instruction of entry e that is read: a shift count, and JSRWP's address
pub record Valued (e : ℕ) (i : Instruction) : Type 0 where
  pub count : (o : Operation) → entry_kind e ≡ compute o counted → i.value < 16
  pub address : entry_kind e ≡ enter_bank → i.value < 65536

-- r is what cell x does: the change or the stop of any instruction that it carries, outside special-register mode; or it is made apart
pub record Acts (v : View) (x : ℕ) (r : Change) : Type 0 where
  pub apart : action_in x ≡ 0 → r ≡ stopped v.core (256 + value_in x % 256)
  pub acts : (e : ℕ) (i : Instruction) → Carries v.config x e i → Valued e i → (action_in x ≡ 0 → ⊥) → v.core.mode ≡ 0 → r ≡ act v i (entry_kind e)
