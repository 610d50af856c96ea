-- Double-length sums of the machine: document 02's K8 of two steps in a row. The word operations' "registers that coincide do not enter"; here they do, since
-- the operands are those before both steps: the second instruction may not write or read the register that the first wrote.
use Rattle.std.specs.Prelude.{ℕ, ◌≡◌}
use Rattle.words.specs.declared.Instruction.{Instruction}
use Rattle.words.specs.Kinds.{Operand, from_register, compute}
use Rattle.arith.specs.Width.{bits, one}
use Rattle.arith.specs.DoubleSums.{DoubleWord, double_word, number, AreWords, Direction, on_low, on_high, total, carry}
use Rattle.state.specs.State.{Env, State}
use Rattle.state.specs.Operands.{view_of}
use Rattle.state.specs.Plans.{D, X}
use Rattle.state.specs.Stops.{parts_at}
use Rattle.state.specs.ComesBack.{CarriesOut, after_step}

-- the instruction at PC of s is on the low words, that at PC of t on the high words
module _ (e : Env) (s t : State) where
  abbrev pub width : ℕ
  width = bits e.config.regwidth

  abbrev pub low_instruction : Instruction
  low_instruction = parts_at e s

  abbrev pub high_instruction : Instruction
  high_instruction = parts_at e t

  -- what their destinations hold in a state, and their second operands l and h there, each %s or an immediate
  abbrev pub destinations : State → DoubleWord
  destinations u = double_word (D (view_of e u) high_instruction) (D (view_of e u) low_instruction)

  abbrev pub operands : Operand → Operand → State → DoubleWord
  operands l h u = double_word (X (view_of e u) high_instruction h) (X (view_of e u) low_instruction l)

  pub record Apart (h : Operand) : Type 0 where
    -- "with flags updated": bit 26 of the first is 0, of the second either
    pub updates : low_instruction.flag ≡ 0
    -- the second writes another register than the first, and reads another
    pub writes : high_instruction.destination ≡ low_instruction.destination → ⊥
    pub reads : h ≡ from_register → high_instruction.source ≡ low_instruction.destination → ⊥

  -- u, the state after both, by the state s before both
  pub record Totals (o : Direction) (l h : Operand) (u : State) : Type 0 where
    -- the destinations hold "the two-word sum modulo the square of 2^W"
    pub words : AreWords width (destinations u)
    pub sum : number width (destinations u) ≡ total width o (destinations s) (operands l h s)
    -- "and N is its carry", where the second updates flags too
    pub flag : high_instruction.flag ≡ 0 → u.core.n ≡ one (carry width o (destinations s) (operands l h s))

-- ADD and in the next step ADDC, or SUB and SUBC, both carried out
pub record InARow (e : Env) (o : Direction) (l h : Operand) (s : State) : Type 0 where
  pub low : CarriesOut e (compute (on_low o) l) s
  pub high : CarriesOut e (compute (on_high o) h) (after_step e s)
  pub apart : Apart e s (after_step e s) h

abbrev pub DoubleSteps : Type 0
DoubleSteps =
    (e : Env) (o : Direction) (l h : Operand) (s : State) →
    InARow e o l h s →
    Totals e s (after_step e s) o l h (after_step e (after_step e s))
