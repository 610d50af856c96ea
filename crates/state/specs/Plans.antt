-- What an instruction changes, by its kind: document 01, 'One step'. Used where no stop is given.
use Rattle.std.specs.Prelude.{ℕ, ◌+◌, ◌-◌, ◌*◌, ◌%◌, leb, eqb, get_or}
use Rattle.laws.specs.Choice.{pick}
use Rattle.words.specs.declared.Config.{Config}
use Rattle.words.specs.declared.Instruction.{Instruction}
use Rattle.words.specs.Kinds.{Operand, from_register, Condition}
use Rattle.words.specs.Kinds.{Kind, unsupported, compute, compare, multiply, bytewise, load_index, index_store, index_load, move, load_constant, load_register, load_direct, store_register, store_direct, port_read, port_modify, port_write, jump, branch, jump_register, branch_register, call, call_register, ret, ret_constant, enter_bank, leave_bank, enter_special, leave_special}
use Rattle.words.specs.declared.Form.{Form}
use Rattle.words.specs.declared.Form.TheVariants.{Signed}
use Rattle.arith.specs.declared.Word.{Word}
use Rattle.arith.specs.declared.Product.{Product}
use Rattle.words.specs.declared.Operation.{Operation}
use Rattle.arith.specs.Width.{bits, one, half}
use Rattle.arith.specs.Alu.{alu_of}
use Rattle.arith.specs.Multiply.{mul_of}
use Rattle.state.specs.declared.Core.{Core}
use Rattle.state.specs.declared.Change.{Change}
use Rattle.state.specs.State.{top}
use Rattle.state.specs.Cores.{at, posting, next, flagged, indexed, multiplied, deep, masked, banked, taking, logging, off, write, change, moved, to_register, to_memory, to_stack, to_log}
use Rattle.state.specs.Context.{context_of, wp_in, n_in, z_in, mask_in, address_in}
use Rattle.state.specs.Operands.{View, cell, register, data_address, constant, operand, condition_met, special_register}

-- the ALU at width W, of words that are taken mod 2^W and N mod 2: registers of a record in its ranges are so already
abbrev pub alu : Config → Operation → ℕ → ℕ → ℕ → Word
alu c o d s n = alu_of (bits c.regwidth) o (d % top c) (s % top c) (n % 2)

abbrev pub product : Config → ℕ → ℕ → Product
product c a b = mul_of (bits c.regwidth) (a % top c) (b % top c)

-- "MOVX: Z is RX = RY before RX advances; RX goes from REG_SIZE−1 to 0; N 0." The mark of an LDYX stays.
unfoldable pub advanced : Config → Core → Core
advanced c m = indexed m m.loaded (pick (eqb (m.rx + 1) c.regsize) 0 (m.rx + 1)) m.ry

-- "logs it with MSbit set"
unfoldable pub with_top_bit : Config → ℕ → ℕ
with_top_bit c x = pick (leb (half (bits c.regwidth)) x) x (x + half (bits c.regwidth))

-- "Register targets are taken mod 2^23."
abbrev pub register_target : ℕ → ℕ
register_target x = x % 0x800000

module _ (v : View) (i : Instruction) where
  -- the values of the destination and source registers
  abbrev pub D : ℕ
  D = register v i.destination

  abbrev pub S : ℕ
  S = register v i.source

  -- the second operand
  abbrev pub X : Operand → ℕ
  X x = operand v.config x S i.value

  -- the core at the next address
  abbrev pub M : Core
  M = next v.core

  abbrev pub result : Operation → Operand → Word
  result o x = alu v.config o D (X x) v.core.n

  -- TST, CMP, CMPS "write no register"
  unfoldable pub compare_plan : Operation → Operand → Change
  compare_plan o x = moved (flagged M i.flag (result o x).z (result o x).n)

  -- AND to SUBC, shifts, level 1 and bytes: the result to %d
  unfoldable pub compute_plan : Operation → Operand → Change
  compute_plan o x = to_register (flagged M i.flag (result o x).z (result o x).n) (cell v i.destination) (result o x).value

  -- "MUL: .. no flag; SPR7 takes product bits W+15 to W if W ≤ 16, else 0"
  unfoldable pub multiply_plan : Operand → Change
  multiply_plan x =
      to_register (multiplied M (product v.config D (X x)).high) (cell v i.destination) (product v.config D (X x)).value

  -- "LDYX: RY from 22-16, RX from 6-0, Z if equal, N 0." K4: "The machine now remembers if an LDYX has run since reset"
  unfoldable pub load_index_plan : Change
  load_index_plan =
      moved (flagged (indexed M 1 i.source i.destination) i.flag (one (eqb i.source i.destination)) 0)

  -- MOVX: flags before the advance
  abbrev pub index_core : Core
  index_core = flagged (advanced v.config M) i.flag (one (eqb v.core.rx v.core.ry)) 0

  -- MOVX to DM: the register that RX names, to the address in %d
  unfoldable pub index_store_plan : Change
  index_store_plan = to_memory index_core (data_address D) (register v v.core.rx)

  -- MOVX from DM: from the address in %s, to the register that RX names
  unfoldable pub index_load_plan : Change
  index_load_plan = to_register index_core (cell v v.core.rx) (get_or v.memory (data_address S) 0)

  -- MOV %d,%s; in special-register mode the special register s
  unfoldable pub move_plan : Change
  move_plan =
      to_register M (cell v i.destination) (pick (eqb v.core.mode 1) (special_register v.config v.core.spr7 i.source) S)

  unfoldable pub load_constant_plan : Form → Change
  load_constant_plan f = to_register M (cell v i.destination) (constant v.config f i.value)

  unfoldable pub load_register_plan : Change
  load_register_plan = to_register M (cell v i.destination) (get_or v.memory (data_address S) 0)

  unfoldable pub load_direct_plan : Change
  load_direct_plan = to_register M (cell v i.destination) (get_or v.memory i.value 0)

  unfoldable pub store_register_plan : Change
  store_register_plan = to_memory M (data_address D) S

  -- MOV &a,%s: the source stands in 22-16
  unfoldable pub store_direct_plan : Change
  store_direct_plan = to_memory M i.value D

  -- "Each port read takes the next reading mod 2^W"
  abbrev pub reading : ℕ
  reading = get_or v.inputs v.core.taken 0 % top v.config

  unfoldable pub port_read_plan : Change
  port_read_plan = to_register (taking M) (cell v i.destination) reading

  -- "each write logs address and value", and is posted
  unfoldable pub port_write_plan : Operand → Change
  port_write_plan x = to_log (posting (logging M) 1 D) v.core.logged D (X x)

  -- "IORMW gives %d the reading, logs it with MSbit set, and counts as a read and as a posted write."
  unfoldable pub port_modify_plan : Change
  port_modify_plan =
      change (posting (logging (taking M)) 1 S) (write (cell v i.destination) reading) off off
      (write v.core.logged S)
      (write v.core.logged (with_top_bit v.config reading))

  unfoldable pub jump_plan : Change
  jump_plan = moved (at M i.value)

  -- a jump that is not taken goes to the next address
  abbrev pub branched : Condition → ℕ → Core
  branched k target = pick (condition_met k v.core.n v.core.z) (at M target) M

  unfoldable pub branch_plan : Condition → Change
  branch_plan k = moved (branched k i.value)

  unfoldable pub jump_register_plan : Change
  jump_register_plan = moved (at M (register_target D))

  unfoldable pub branch_register_plan : Condition → Change
  branch_register_plan k = moved (branched k (register_target D))

  -- "JSR saves PC+1."
  abbrev pub called : ℕ → Change
  called target = to_stack (deep (at M target) (v.core.depth + 1)) v.core.depth (v.core.pc + 1)

  unfoldable pub call_plan : Change
  call_plan = called i.value

  unfoldable pub call_register_plan : Change
  call_register_plan = called (register_target D)

  -- the newest address, and the core that returns to it; its cell is cleared: "zeros above them"
  abbrev pub newest : ℕ
  newest = v.core.depth - 1

  abbrev pub returned : Core
  returned = deep (at M (get_or v.stack newest 0)) newest

  unfoldable pub ret_plan : Change
  ret_plan = to_stack returned newest 0

  -- "RLD loads the signed form."
  unfoldable pub ret_constant_plan : Change
  ret_constant_plan =
      change returned (write (cell v i.destination) (constant v.config Signed i.value)) off (write newest 0) off off

  -- JSRWP: the context of the old bank into %00 of the new one
  unfoldable pub enter_bank_plan : Change
  enter_bank_plan = to_register (banked (at M i.value) (16 * i.destination)) (16 * i.destination) (context_of v.core)

  -- RETWP: "takes them back from %00, ignoring 25-22"
  abbrev pub context : ℕ
  context = register v 0

  unfoldable pub leave_bank_plan : Change
  leave_bank_plan =
      moved
      (masked (flagged (banked (at M (address_in context)) (wp_in context)) 0 (z_in context) (n_in context)) (mask_in context)
      v.core.saved
      v.core.mode)

  -- "SPR_ON saves IMask and sets 15; SPR_OFF reloads."
  unfoldable pub enter_special_plan : Change
  enter_special_plan = moved (masked M 15 v.core.imask 1)

  unfoldable pub leave_special_plan : Change
  leave_special_plan = moved (masked M v.core.saved v.core.saved 0)

  unfoldable pub plan_of : Kind → Change
  plan_of unsupported = moved M  -- no word of this kind can be read
  plan_of (compute o x) = compute_plan o x
  plan_of (compare o x) = compare_plan o x
  plan_of (multiply x) = multiply_plan x
  plan_of (bytewise o) = compute_plan (o i.number) from_register
  plan_of load_index = load_index_plan
  plan_of index_store = index_store_plan
  plan_of index_load = index_load_plan
  plan_of move = move_plan
  plan_of (load_constant f) = load_constant_plan f
  plan_of load_register = load_register_plan
  plan_of load_direct = load_direct_plan
  plan_of store_register = store_register_plan
  plan_of store_direct = store_direct_plan
  plan_of port_read = port_read_plan
  plan_of port_modify = port_modify_plan
  plan_of (port_write x) = port_write_plan x
  plan_of jump = jump_plan
  plan_of (branch k) = branch_plan k
  plan_of jump_register = jump_register_plan
  plan_of (branch_register k) = branch_register_plan k
  plan_of call = call_plan
  plan_of call_register = call_register_plan
  plan_of ret = ret_plan
  plan_of ret_constant = ret_constant_plan
  plan_of enter_bank = enter_bank_plan
  plan_of leave_bank = leave_bank_plan
  plan_of enter_special = enter_special_plan
  plan_of leave_special = leave_special_plan
