-- A word decoded once: the cell that the machine's loop carries out without a look at the word. Nothing here is to be believed: it says how code holds what
-- words and state say of a word, and the proofs tie it to them.
--
-- Bits 5-0 action, 6 bit 26 of the word, 15-8 destination, 23-16 source, 55-24 value, 59-56 when a conditional jump is taken, by 2 N + Z, 63-62 cycles.
-- A cell of action 0 is not carried out by the loop: its value is 0 where the word is not decoded yet, 5, 6 or 7 where it is refused, 16 for SPR_ON and 17
-- for SPR_OFF. So 0 is the cell of a word that is not decoded yet.
use Rattle.std.specs.Prelude.{ℕ, ◌+◌, ◌*◌, ◌/◌, ◌%◌, ◌<◌, ◌≡◌, eqb}
use Rattle.laws.specs.Choice.{pick}
use Rattle.words.specs.declared.Config.{Config}
use Rattle.words.specs.declared.Instruction.{Instruction}
use Rattle.words.specs.declared.Form.TheVariants.{Signed}
use Rattle.words.specs.Kinds.{Operand, from_register, literal, short_literal, counted}
use Rattle.words.specs.Kinds.{Condition}
use Rattle.words.specs.Kinds.{Kind, unsupported, compute, compare, multiply, bytewise, load_index, index_store, index_load, move, load_constant, load_register, load_direct, store_register, store_direct, port_read, port_modify, port_write, jump, branch, jump_register, branch_register, call, call_register, ret, ret_constant, enter_bank, leave_bank, enter_special, leave_special}
use Rattle.words.specs.Words.{read_lawful}
use Rattle.words.specs.Facts.{facts_for}
use Rattle.words.specs.Actions.{flag', destination', source'}
use Rattle.words.specs.Lookup.{entry_at, action_at, entry_kind, reads}
use Rattle.arith.specs.Width.{one}
use Rattle.state.specs.Operands.{constant, condition_met}
use Rattle.state.specs.Step.{cycles_of}

-- Readers

unfoldable pub action_in : ℕ → ℕ
action_in x = x % 64

unfoldable pub flag_in : ℕ → ℕ
flag_in x = x / 64 % 2

unfoldable pub destination_in : ℕ → ℕ
destination_in x = x / 256 % 256

unfoldable pub source_in : ℕ → ℕ
source_in x = x / 65536 % 256

unfoldable pub value_in : ℕ → ℕ
value_in x = x / 0x1000000 % 0x100000000

unfoldable pub taken_in : ℕ → ℕ
taken_in x = x / 0x100000000000000 % 16

unfoldable pub cycles_in : ℕ → ℕ
cycles_in x = x / 0x4000000000000000

-- Contents

-- the value of the second operand, where it is not a register's
unfoldable pub operand_value : Config → Operand → ℕ → ℕ
operand_value c from_register v = 0
operand_value c (literal f) v = constant c f v
operand_value c short_literal v = 0
operand_value c counted v = v

-- the value that an instruction of kind k works with: an immediate at the width, a count, a byte number, a data address, a target; JSRWP's address with its
-- unit above
unfoldable pub value_of : Config → Instruction → Kind → ℕ
value_of c i unsupported = 0
value_of c i (compute o b) = operand_value c b i.value
value_of c i (compare o b) = operand_value c b i.value
value_of c i (multiply b) = operand_value c b i.value
value_of c i (bytewise o) = i.number
value_of c i load_index = 0
value_of c i index_store = 0
value_of c i index_load = 0
value_of c i move = 0
value_of c i (load_constant f) = constant c f i.value
value_of c i load_register = 0
value_of c i load_direct = i.value
value_of c i store_register = 0
value_of c i store_direct = i.value
value_of c i port_read = 0
value_of c i port_modify = 0
value_of c i (port_write b) = operand_value c b i.value
value_of c i jump = i.value
value_of c i (branch k) = i.value
value_of c i jump_register = 0
value_of c i (branch_register k) = 0
value_of c i call = i.value
value_of c i call_register = 0
value_of c i ret = 0
value_of c i ret_constant = constant c Signed i.value
value_of c i enter_bank = 65536 * i.destination + i.value
value_of c i leave_bank = 0
value_of c i enter_special = 0
value_of c i leave_special = 0

-- the answers of a condition by 2 N + Z, a bit each
abbrev pub answers_of : Condition → ℕ
answers_of k = one (condition_met k 0 0) + 2 * one (condition_met k 0 1) + 4 * one (condition_met k 1 0) + 8 * one (condition_met k 1 1)

unfoldable pub taken_of : Kind → ℕ
taken_of unsupported = 0
taken_of (compute o b) = 0
taken_of (compare o b) = 0
taken_of (multiply b) = 0
taken_of (bytewise o) = 0
taken_of load_index = 0
taken_of index_store = 0
taken_of index_load = 0
taken_of move = 0
taken_of (load_constant f) = 0
taken_of load_register = 0
taken_of load_direct = 0
taken_of store_register = 0
taken_of store_direct = 0
taken_of port_read = 0
taken_of port_modify = 0
taken_of (port_write b) = 0
taken_of jump = 0
taken_of (branch k) = answers_of k
taken_of jump_register = 0
taken_of (branch_register k) = answers_of k
taken_of call = 0
taken_of call_register = 0
taken_of ret = 0
taken_of ret_constant = 0
taken_of enter_bank = 0
taken_of leave_bank = 0
taken_of enter_special = 0
taken_of leave_special = 0

-- a part that action a reads; else 0
abbrev pub used : ℕ → ℕ → ℕ → ℕ
used m a v = pick (eqb ((action_at a).uses / m % 2) 1) v 0

-- the cell of an instruction by its row's entry e
abbrev pub packed : Config → Instruction → ℕ → ℕ
packed c i e =
    let a = e / 0x4000000 in
    let k = entry_kind e in
    0x4000000000000000 * cycles_of c (facts_for k) +
    0x100000000000000 * taken_of k +
    0x1000000 * value_of c i k +
    0x10000 * used source' a i.source +
    0x100 * used destination' a i.destination +
    0x40 * used flag' a i.flag +
    a

-- a cell that the loop does not carry out
abbrev pub leaving : ℕ → ℕ
leaving n = 0x1000000 * n

-- the numbers of SPR_ON and SPR_OFF, beside document 01's 5, 6 and 7; the first two actions that the loop does not have
abbrev pub turns_on : ℕ
turns_on = 16

abbrev pub turns_off : ℕ
turns_off = 17

abbrev pub first_apart : ℕ
first_apart = 62

-- the cell of an instruction that is read
unfoldable pub cell_for : Config → Instruction → ℕ
cell_for c i =
    let e = entry_at i.row in
    pick (eqb (e / 0x4000000) 63) (leaving turns_on) (pick (eqb (e / 0x4000000) 62) (leaving turns_off) (packed c i e))

-- the cell of word w
unfoldable pub cell_of : Config → ℕ → ℕ
cell_of c w =
    let r = read_lawful c w in
    pick (eqb r.number 0) (cell_for c r.instruction) (leaving r.number)

-- What the machine asks of a cell

-- its registers are in the bank
pub record Inside (c : Config) (x : ℕ) : Type 0 where
  pub destination : destination_in x < c.regsize
  pub source : source_in x < c.regsize

-- it carries the instruction i of entry e: the parts that its action reads
pub record Carries (c : Config) (x e : ℕ) (i : Instruction) : Type 0 where
  pub action : action_in x ≡ e / 0x4000000
  pub carried_out : e / 0x4000000 < first_apart
  pub flag : reads flag' (e / 0x4000000) → flag_in x ≡ i.flag
  pub destination : reads destination' (e / 0x4000000) → destination_in x ≡ i.destination
  pub source : reads source' (e / 0x4000000) → source_in x ≡ i.source
  pub value : value_in x ≡ value_of c i (entry_kind e)
  pub taken : taken_in x ≡ taken_of (entry_kind e)
