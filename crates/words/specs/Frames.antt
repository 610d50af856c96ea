-- What the parts of a word hold, by the kind of its row: document 01, 'Words', and the main frames of
-- manual 5.17.1. Written by tools/rows.
use Rattle.laws.specs.Choice.{decided, swapped}
use Rattle.words.specs.Parts.{Part, unused, flag, byte, register, unit, immediate, read_address, write_address, target, count, bank_address, short}
use Rattle.words.specs.Kinds.{Operand, from_register, literal, short_literal, counted}
use Rattle.words.specs.Kinds.{Kind, unsupported, compute, compare, multiply, bytewise, load_index, index_store, index_load, move, load_constant, load_register, load_direct, store_register, store_direct, port_read, port_modify, port_write, jump, branch, jump_register, branch_register, call, call_register, ret, ret_constant, enter_bank, leave_bank, enter_special, leave_special}

-- the parts by where they stand: bit 26; a number in the low bits of 31-23; bits 22-16; bits 6-0; the
-- value, in bits 15-0, of a target in 22-0
pub record Frame : Type 0 where
  pub flag : Part
  pub number : Part
  pub destination : Part
  pub source : Part
  pub value : Part

pub data Column : Type 0 where
  FLAG NUMBER DESTINATION SOURCE VALUE : Column
  deriving Discrete as Column-discrete

-- no part is used
abbrev pub bare : Frame
bare = record { flag = unused; number = unused; destination = unused; source = unused; value = unused }

-- a frame with one column more
infixl 5 ◌plus◌≔◌
abbrev pub ◌plus◌≔◌ : Frame → Column → Part → Frame
f plus c ≔ p =
    let here : Column → Part → Part = λ d q. swapped (decided (Column-discrete c d)) p q in
    record {
      flag = here FLAG f.flag;
      number = here NUMBER f.number;
      destination = here DESTINATION f.destination;
      source = here SOURCE f.source;
      value = here VALUE f.value;
    }

abbrev pub operand_frame : Operand → Frame
operand_frame from_register = bare plus SOURCE ≔ register
operand_frame (literal a) = bare plus VALUE ≔ immediate
operand_frame short_literal = bare plus VALUE ≔ short
operand_frame counted = bare plus VALUE ≔ count

abbrev pub frame_of : Kind → Frame
frame_of unsupported = bare  -- no configuration has the row
frame_of (compute a b) = operand_frame b plus FLAG ≔ flag plus DESTINATION ≔ register  -- %d gets the result of %d and the operand
frame_of (compare a b) = operand_frame b plus FLAG ≔ flag plus DESTINATION ≔ register  -- flags alone
frame_of (multiply a) = operand_frame a plus FLAG ≔ flag plus DESTINATION ≔ register  -- MUL
frame_of (bytewise a) = bare plus FLAG ≔ flag plus NUMBER ≔ byte plus DESTINATION ≔ register plus SOURCE ≔ register  -- BST, BLD, BLDS
frame_of load_index = bare plus FLAG ≔ flag plus DESTINATION ≔ register plus SOURCE ≔ register  -- LDYX
frame_of index_store = bare plus FLAG ≔ flag plus DESTINATION ≔ register  -- MOVX to DM
frame_of index_load = bare plus FLAG ≔ flag plus SOURCE ≔ register  -- MOVX from DM
frame_of move = bare plus DESTINATION ≔ register plus SOURCE ≔ register  -- MOV %d,%s
frame_of (load_constant a) = bare plus DESTINATION ≔ register plus VALUE ≔ immediate  -- MOV %d,immediate
frame_of load_register = bare plus DESTINATION ≔ register plus SOURCE ≔ register  -- MOV %d,@%s
frame_of load_direct = bare plus DESTINATION ≔ register plus VALUE ≔ read_address  -- MOV %d,&a
frame_of store_register = bare plus DESTINATION ≔ register plus SOURCE ≔ register  -- MOV @%d,%s
frame_of store_direct = bare plus DESTINATION ≔ register plus VALUE ≔ write_address  -- MOV &a,%s
frame_of port_read = bare plus DESTINATION ≔ register plus SOURCE ≔ register  -- MOVIO %d,@%s
frame_of port_modify = bare plus DESTINATION ≔ register plus SOURCE ≔ register  -- IORMW
frame_of (port_write a) = operand_frame a plus DESTINATION ≔ register  -- MOVIO @%d,operand
frame_of jump = bare plus VALUE ≔ target  -- JMP target
frame_of (branch a) = bare plus VALUE ≔ target  -- JMP target,condition
frame_of jump_register = bare plus DESTINATION ≔ register  -- JMP @%d
frame_of (branch_register a) = bare plus DESTINATION ≔ register  -- JMP @%d,condition
frame_of call = bare plus VALUE ≔ target  -- JSR target
frame_of call_register = bare plus DESTINATION ≔ register  -- JSR @%d
frame_of ret = bare  -- RET
frame_of ret_constant = bare plus DESTINATION ≔ register plus VALUE ≔ immediate  -- RLD, the signed form
frame_of enter_bank = bare plus DESTINATION ≔ unit plus VALUE ≔ bank_address  -- JSRWP
frame_of leave_bank = bare  -- RETWP
frame_of enter_special = bare  -- SPR_ON
frame_of leave_special = bare  -- SPR_OFF
