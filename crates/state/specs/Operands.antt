-- What an instruction reads: registers of the active bank, immediates, special registers, the condition of a jump.
use Rattle.std.specs.Prelude.{ℕ, ◌+◌, ◌*◌, ◌%◌, Bool, false, not, ◌&&◌, ◌||◌, List, [], ◌∷◌, leb, eqb, length, get_or}
use Rattle.words.specs.declared.Config.{Config}
use Rattle.words.specs.Kinds.{Operand, from_register, literal, short_literal, counted}
use Rattle.words.specs.Kinds.{Condition, Z, NZ, GT, LT, GE, LE, NIRQ, B0, B1, NB0, NB1, BIO}
use Rattle.words.specs.declared.Form.{Form}
use Rattle.arith.specs.Width.{bits, one}
use Rattle.arith.specs.Immediates.{immediate_of}
use Rattle.state.specs.declared.Core.{Core}
use Rattle.state.specs.State.{Env, State, top}

-- what an instruction may look at; room is how many places the output log has
pub record View : Type 0 where
  pub config : Config
  pub core : Core
  pub stack : List ℕ
  pub registers : List ℕ
  pub memory : List ℕ
  pub inputs : List ℕ
  pub room : ℕ

abbrev pub view : Config → Core → List ℕ → List ℕ → List ℕ → List ℕ → ℕ → View
view c m stack registers memory inputs room =
    record { config = c; core = m; stack = stack; registers = registers; memory = memory; inputs = inputs; room = room }

abbrev pub view_of : Env → State → View
view_of e s = view e.config s.core s.stack s.registers s.memory e.inputs (length s.addresses)

-- the cell of register r of the active bank, and its value
abbrev pub cell : View → ℕ → ℕ
cell v r = v.core.wp + r

abbrev pub register : View → ℕ → ℕ
register v r = get_or v.registers (cell v r) 0

-- "Data addresses are register values mod 65,536."
abbrev pub data_address : ℕ → ℕ
data_address x = x % 65536

-- "Immediates: W = 32: sign extended, zero extended, or times 65,536. W = 16 and 8: low W bits, all three alike."
abbrev pub constant : Config → Form → ℕ → ℕ
constant c f x = immediate_of (bits c.regwidth) f (x % 65536)

-- the second operand; the short immediate is unsupported
unfoldable pub operand : Config → Operand → ℕ → ℕ → ℕ
operand c from_register source value = source
operand c (literal f) source value = constant c f value
operand c short_literal source value = 0
operand c counted source value = value

-- "GT: neither Z nor N; LT: N; GE: not N; LE: Z or N. BIO is never taken." The conditions from NIRQ to NB1 are unsupported.
unfoldable pub condition_met : Condition → ℕ → ℕ → Bool
condition_met Z n z = eqb z 1
condition_met NZ n z = not (eqb z 1)
condition_met GT n z = not (eqb z 1) && not (eqb n 1)
condition_met LT n z = eqb n 1
condition_met GE n z = not (eqb n 1)
condition_met LE n z = eqb z 1 || eqb n 1
condition_met NIRQ n z = false
condition_met B0 n z = false
condition_met B1 n z = false
condition_met NB0 n z = false
condition_met NB1 n z = false
condition_met BIO n z = false

-- log2 of a power of two up to 32,768, "log2 of size 0 is 0": how many of 2, 4, 8, .. are at most n
abbrev pub powers : List ℕ
powers = 2 ∷ 4 ∷ 8 ∷ 16 ∷ 32 ∷ 64 ∷ 128 ∷ 256 ∷ 512 ∷ 1024 ∷ 2048 ∷ 4096 ∷ 8192 ∷ 16384 ∷ 32768 ∷ []

abbrev pub count_up_to : ℕ → List ℕ → ℕ
count_up_to n [] = 0
count_up_to n (p ∷ ps) = one (leb p n) + count_up_to n ps

unfoldable pub log2 : ℕ → ℕ
log2 n = count_up_to n powers

-- Special registers, manual 4.7: SPR0 12 ALU_MULT, 11-10 ALU_LEVEL, 9-0 YAM_CLK; SPR1 15-8 REG_WIDTH, 7-4 log2 RM_SIZE, 3-0 log2 REG_SIZE;
-- SPR2 3-0 log2 DM_SIZE; SPR3 YAM_SREG3; SPR7. "all cut to W bits"
unfoldable pub special_register : Config → ℕ → ℕ → ℕ
special_register c spr7 k =
    let spr0 = 4096 * c.alumult + 1024 * c.alulevel + c.yamclk in
    let spr1 = 256 * c.regwidth + 16 * log2 c.rmsize + log2 c.regsize in
    let spr2 = log2 c.dmsize in
    get_or (spr0 ∷ spr1 ∷ spr2 ∷ c.yamsreg3 ∷ []) k spr7 % top c
