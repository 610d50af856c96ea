-- Where an instruction of each kind writes: the one cell of register memory or data memory that may change. Said beside the plans and apart from them, so
-- that a plan that writes another cell is refused.
use Rattle.std.specs.Prelude.{ℕ, ◌+◌, ◌*◌}
use Rattle.words.specs.declared.Instruction.{Instruction}
use Rattle.words.specs.Kinds.{Kind, unsupported, compute, compare, multiply, bytewise, load_index, index_store, index_load, move, load_constant, load_register, load_direct, store_register, store_direct, port_read, port_modify, port_write, jump, branch, jump_register, branch_register, call, call_register, ret, ret_constant, enter_bank, leave_bank, enter_special, leave_special}
use Rattle.state.specs.Operands.{View, register, data_address}

pub data Destination : Type 0 where
  register_cell : ℕ → Destination
  data-cell : ℕ → Destination
  nowhere : Destination

module _ (v : View) (i : Instruction) where
  -- %d of the active bank
  abbrev pub named : Destination
  named = register_cell (v.core.wp + i.destination)

  -- the register that RX names: MOVX from data memory
  abbrev pub indexed : Destination
  indexed = register_cell (v.core.wp + v.core.rx)

  -- %00 of the new bank: JSRWP
  abbrev pub entered : Destination
  entered = register_cell (16 * i.destination)

  -- data memory at the address in %d, and at the address in the word
  abbrev pub addressed : Destination
  addressed = data-cell (data_address (register v i.destination))

  abbrev pub direct : Destination
  direct = data-cell i.value

  unfoldable pub destination_of : Kind → Destination
  destination_of unsupported = nowhere
  destination_of (compute o x) = named
  destination_of (compare o x) = nowhere
  destination_of (multiply x) = named
  destination_of (bytewise o) = named
  destination_of load_index = nowhere
  destination_of index_store = addressed
  destination_of index_load = indexed
  destination_of move = named
  destination_of (load_constant f) = named
  destination_of load_register = named
  destination_of load_direct = named
  destination_of store_register = addressed
  destination_of store_direct = direct
  destination_of port_read = named
  destination_of port_modify = named
  destination_of (port_write x) = nowhere
  destination_of jump = nowhere
  destination_of (branch k) = nowhere
  destination_of jump_register = nowhere
  destination_of (branch_register k) = nowhere
  destination_of call = nowhere
  destination_of call_register = nowhere
  destination_of ret = nowhere
  destination_of ret_constant = named
  destination_of enter_bank = entered
  destination_of leave_bank = nowhere
  destination_of enter_special = nowhere
  destination_of leave_special = nowhere
