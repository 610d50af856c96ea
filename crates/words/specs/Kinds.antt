-- What an instruction does: its kind, which a step goes by; and what rules, stops and cycles ask of a kind. Written by tools/rows.
use Rattle.std.specs.Prelude.{ℕ, List, [], ◌∷◌}
use Rattle.words.specs.declared.Form.{Form}
use Rattle.words.specs.declared.Operation.{Operation}

-- the second operand
pub data Operand : Type 0 where
  from_register : Operand  -- %s
  literal : Form → Operand  -- # signed, > unsigned, < shifted immediate
  short_literal : Operand  -- # short signed immediate
  counted : Operand  -- # shift count

-- conditions of JMP, bits 26-23 from 1 on
pub data Condition : Type 0 where
  Z NZ GT LT GE LE NIRQ B0 B1 NB0 NB1 BIO : Condition

pub data Kind : Type 0 where
  unsupported : Kind  -- no configuration has the row
  compute : Operation → Operand → Kind  -- %d gets the result of %d and the operand
  compare : Operation → Operand → Kind  -- flags alone: TST, CMP and CMPS are And, Sub and Subs that write no register
  multiply : Operand → Kind  -- MUL
  bytewise : (ℕ → Operation) → Kind  -- BST, BLD, BLDS: the operation of the byte number
  load_index : Kind  -- LDYX
  index_store : Kind  -- MOVX to DM
  index_load : Kind  -- MOVX from DM
  move : Kind  -- MOV %d,%s
  load_constant : Form → Kind  -- MOV %d,immediate
  load_register : Kind  -- MOV %d,@%s
  load_direct : Kind  -- MOV %d,&a
  store_register : Kind  -- MOV @%d,%s
  store_direct : Kind  -- MOV &a,%s: "source register in 22-16"
  port_read : Kind  -- MOVIO %d,@%s
  port_modify : Kind  -- IORMW
  port_write : Operand → Kind  -- MOVIO @%d,operand
  jump : Kind  -- JMP target
  branch : Condition → Kind  -- JMP target,condition
  jump_register : Kind  -- JMP @%d
  branch_register : Condition → Kind  -- JMP @%d,condition
  call : Kind  -- JSR target
  call_register : Kind  -- JSR @%d
  ret : Kind  -- RET
  ret_constant : Kind  -- RLD, the signed form
  enter_bank : Kind  -- JSRWP
  leave_bank : Kind  -- RETWP
  enter_special : Kind  -- SPR_ON
  leave_special : Kind  -- SPR_OFF

-- what rules, stops and cycles ask
pub data Mark : Type 0 where
  goes_on : Mark  -- control may go to the next address
  jumps : Mark  -- control may go to the value part's address
  calls : Mark  -- pushes the return stack
  returns : Mark  -- pops the return stack
  enters_mode : Mark  -- switches special-register mode on
  leaves_mode : Mark  -- switches special-register mode off
  reveals : Mark  -- in special-register mode reads the special register that its source names
  reads_port : Mark  -- reads a port
  writes_port : Mark  -- writes a port
  loads : Mark  -- reads data memory
  stores : Mark  -- writes data memory
  by_register : Mark  -- its data address comes from a register
  enters_bank : Mark  -- JSRWP
  leaves_bank : Mark  -- RETWP
  barred : Mark  -- barred by the certificate's rule 3
  by_index : Mark  -- moves the register that RX names: MOVX
  deriving Discrete as Mark-discrete

unfoldable pub marks_of : Kind → List Mark
marks_of unsupported = []
marks_of (compute a b) = goes_on ∷ []
marks_of (compare a b) = goes_on ∷ []
marks_of (multiply a) = goes_on ∷ []
marks_of (bytewise a) = goes_on ∷ []
marks_of load_index = goes_on ∷ []
marks_of index_store = goes_on ∷ stores ∷ by_register ∷ by_index ∷ []
marks_of index_load = goes_on ∷ loads ∷ by_register ∷ by_index ∷ []
marks_of move = goes_on ∷ reveals ∷ []
marks_of (load_constant a) = goes_on ∷ []
marks_of load_register = goes_on ∷ loads ∷ by_register ∷ []
marks_of load_direct = goes_on ∷ loads ∷ []
marks_of store_register = goes_on ∷ stores ∷ by_register ∷ []
marks_of store_direct = goes_on ∷ stores ∷ []
marks_of port_read = goes_on ∷ reads_port ∷ []
marks_of port_modify = goes_on ∷ reads_port ∷ writes_port ∷ []
marks_of (port_write a) = goes_on ∷ writes_port ∷ []
marks_of jump = jumps ∷ []
marks_of (branch a) = goes_on ∷ jumps ∷ []
marks_of jump_register = barred ∷ []
marks_of (branch_register a) = goes_on ∷ barred ∷ []
marks_of call = goes_on ∷ jumps ∷ calls ∷ []
marks_of call_register = goes_on ∷ calls ∷ barred ∷ []
marks_of ret = returns ∷ []
marks_of ret_constant = returns ∷ []
marks_of enter_bank = enters_bank ∷ barred ∷ []
marks_of leave_bank = leaves_bank ∷ barred ∷ []
marks_of enter_special = goes_on ∷ enters_mode ∷ []
marks_of leave_special = goes_on ∷ leaves_mode ∷ []
