-- A plan writes where its kind's destination says, and nowhere else.
-- Assumes nothing.
use Prim.Native.Nat.{ℕ}
use mathlib.Core.Path.{◌≡◌, refl}
use Rattle.std.specs.Prelude.{Option, Some, None}
use Rattle.words.specs.declared.Instruction.{Instruction}
use Rattle.words.specs.Kinds.{Kind, unsupported, compute, compare, multiply, bytewise, load_index, index_store, index_load, move, load_constant, load_register, load_direct, store_register, store_direct, port_read, port_modify, port_write, jump, branch, jump_register, branch_register, call, call_register, ret, ret_constant, enter_bank, leave_bank, enter_special, leave_special}
use Rattle.state.specs.declared.Core.{Core}
use Rattle.state.specs.declared.Write.{Write}
use Rattle.state.specs.declared.Change.{Change}
use Rattle.state.specs.Cores.{off, write, change}
use Rattle.state.specs.Operands.{View}
use Rattle.state.specs.Destinations.{Destination, register_cell, data-cell, nowhere, destination_of}
use Rattle.state.specs.Plans.{plan_of, compare_plan, compute_plan, multiply_plan, load_index_plan, index_store_plan, index_load_plan, move_plan, load_constant_plan, load_register_plan, load_direct_plan, store_register_plan, store_direct_plan, port_read_plan, port_write_plan, port_modify_plan, jump_plan, branch_plan, jump_register_plan, branch_register_plan, call_plan, call_register_plan, ret_plan, ret_constant_plan, enter_bank_plan, leave_bank_plan, enter_special_plan, leave_special_plan}

-- the write, if any, is to the cell of f that d is
abbrev pub Hits : (ℕ → Destination) → Destination → Option Write → Type 0
Hits f d None = Unit {0}
Hits f d (Some w) = d ≡ f w.at

-- the writes of x to registers and data memory, if any, are to d
pub record Writes-to (d : Destination) (x : Change) : Type 0 where
  pub registers : Hits register_cell d x.reg
  pub memory : Hits data-cell d x.dm

module _ {m : Core} {stack logat logval : Option Write} where
  to_register : {i n : ℕ} → Writes-to (register_cell i) (change m (write i n) off stack logat logval)
  to_register = record { registers = refl; memory = tt }

  to_memory : {i n : ℕ} → Writes-to (data-cell i) (change m off (write i n) stack logat logval)
  to_memory = record { registers = tt; memory = refl }

  to_none : Writes-to nowhere (change m off off stack logat logval)
  to_none = record { registers = tt; memory = tt }

pub plan_writes : (v : View) (i : Instruction) (k : Kind) → Writes-to (destination_of v i k) (plan_of v i k)
unfolding destination_of plan_of compare_plan compute_plan multiply_plan load_index_plan index_store_plan index_load_plan move_plan load_constant_plan load_register_plan load_direct_plan store_register_plan store_direct_plan port_read_plan port_write_plan port_modify_plan jump_plan branch_plan jump_register_plan branch_register_plan call_plan call_register_plan ret_plan ret_constant_plan enter_bank_plan leave_bank_plan enter_special_plan leave_special_plan
plan_writes v i unsupported = to_none
plan_writes v i (compute o x) = to_register
plan_writes v i (compare o x) = to_none
plan_writes v i (multiply x) = to_register
plan_writes v i (bytewise o) = to_register
plan_writes v i load_index = to_none
plan_writes v i index_store = to_memory
plan_writes v i index_load = to_register
plan_writes v i move = to_register
plan_writes v i (load_constant f) = to_register
plan_writes v i load_register = to_register
plan_writes v i load_direct = to_register
plan_writes v i store_register = to_memory
plan_writes v i store_direct = to_memory
plan_writes v i port_read = to_register
plan_writes v i port_modify = to_register
plan_writes v i (port_write x) = to_none
plan_writes v i jump = to_none
plan_writes v i (branch k) = to_none
plan_writes v i jump_register = to_none
plan_writes v i (branch_register k) = to_none
plan_writes v i call = to_none
plan_writes v i call_register = to_none
plan_writes v i ret = to_none
plan_writes v i ret_constant = to_register
plan_writes v i enter_bank = to_register
plan_writes v i leave_bank = to_none
plan_writes v i enter_special = to_none
plan_writes v i leave_special = to_none
