-- The rows of the instruction tables: document 01, 'Words', and manual 5.17.4 to 5.17.9, a line each, unsupported rows included. Written by tools/rows.
use Rattle.std.specs.Prelude.{ℕ, List, [], ◌∷◌, get_or}
use Rattle.words.specs.declared.Form.TheVariants.{Signed, Unsigned, Shifted}
use Rattle.words.specs.declared.Operation.TheVariants.{And, Or, Xor, Add, Addc, Sub, Subc, Subs, Shl, Shr, Shra, Rotl, Rotr, Shl16, Abs, Clz, Bst, Bld, Blds}
use Rattle.words.specs.Parts.{Part, coprocessor, register, mask, immediate}
use Rattle.words.specs.Parts.{Option, always, mult, level1, level2, level2_memory, memory, ports, rmw, banks, spr, never}
use Rattle.words.specs.Kinds.{from_register, literal, short_literal, counted}
use Rattle.words.specs.Kinds.{Z, NZ, GT, LT, GE, LE, NIRQ, B0, B1, NB0, NB1, BIO}
use Rattle.words.specs.Kinds.{Kind, unsupported, compute, compare, multiply, bytewise, load_index, index_store, index_load, move, load_constant, load_register, load_direct, store_register, store_direct, port_read, port_modify, port_write, jump, branch, jump_register, branch_register, call, call_register, ret, ret_constant, enter_bank, leave_bank, enter_special, leave_special}
use Rattle.words.specs.Frames.{Frame, NUMBER, DESTINATION, VALUE, bare, ◌plus◌≔◌, frame_of}

-- A row: its word with all parts zero; what each part holds; the option that it needs; what its instructions do.
pub record Row : Type 0 where
  pub base : ℕ
  pub flag : Part
  pub number : Part
  pub destination : Part
  pub source : Part
  pub value : Part
  pub option : Option
  pub kind : Kind

abbrev pub framed : ℕ → Frame → Option → Kind → Row
framed b f o k =
    record {
      base = b;
      flag = f.flag;
      number = f.number;
      destination = f.destination;
      source = f.source;
      value = f.value;
      option = o;
      kind = k;
    }

-- base, option, kind: the kind says what the parts hold
abbrev pub row : ℕ → Option → Kind → Row
row b o k = framed b (frame_of k) o k

-- base, frame: a row that no configuration has
abbrev pub unsupported_row : ℕ → Frame → Row
unsupported_row b f = framed b f never unsupported

-- how many rows there are; a number from here on names none
abbrev pub row_count : ℕ
row_count = 131

abbrev pub no_row : Row
no_row = unsupported_row 0 bare

unfoldable pub rows : List Row
rows =
    row 0x00000000 always (compare And from_register) ∷  -- TST %d,%s
    row 0x02800000 always (compare And (literal Signed)) ∷  -- TST %d,#imm
    row 0x03000000 always (compare And (literal Unsigned)) ∷  -- TST %d,>imm
    row 0x03800000 always (compare And (literal Shifted)) ∷  -- TST %d,<imm
    row 0x02000000 never (compare And short_literal) ∷  -- TST %d,#short
    row 0x08000000 always (compute And from_register) ∷  -- AND %d,%s
    row 0x0a800000 always (compute And (literal Signed)) ∷  -- AND %d,#imm
    row 0x0b000000 always (compute And (literal Unsigned)) ∷  -- AND %d,>imm
    row 0x0b800000 always (compute And (literal Shifted)) ∷  -- AND %d,<imm
    row 0x0a000000 never (compute And short_literal) ∷  -- AND %d,#short
    row 0x10000000 always (compute Or from_register) ∷  -- OR %d,%s
    row 0x12800000 always (compute Or (literal Signed)) ∷  -- OR %d,#imm
    row 0x13000000 always (compute Or (literal Unsigned)) ∷  -- OR %d,>imm
    row 0x13800000 always (compute Or (literal Shifted)) ∷  -- OR %d,<imm
    row 0x12000000 never (compute Or short_literal) ∷  -- OR %d,#short
    row 0x18000000 always (compute Xor from_register) ∷  -- XOR %d,%s
    row 0x1a800000 always (compute Xor (literal Signed)) ∷  -- XOR %d,#imm
    row 0x1b000000 always (compute Xor (literal Unsigned)) ∷  -- XOR %d,>imm
    row 0x1b800000 always (compute Xor (literal Shifted)) ∷  -- XOR %d,<imm
    row 0x1a000000 never (compute Xor short_literal) ∷  -- XOR %d,#short
    row 0x20000000 always (compare Sub from_register) ∷  -- CMP %d,%s
    row 0x22800000 always (compare Sub (literal Signed)) ∷  -- CMP %d,#imm
    row 0x23000000 always (compare Sub (literal Unsigned)) ∷  -- CMP %d,>imm
    row 0x23800000 always (compare Sub (literal Shifted)) ∷  -- CMP %d,<imm
    row 0x22000000 never (compare Sub short_literal) ∷  -- CMP %d,#short
    row 0x28000000 always (compare Subs from_register) ∷  -- CMPS %d,%s
    row 0x2a800000 always (compare Subs (literal Signed)) ∷  -- CMPS %d,#imm
    row 0x2b000000 always (compare Subs (literal Unsigned)) ∷  -- CMPS %d,>imm
    row 0x2b800000 always (compare Subs (literal Shifted)) ∷  -- CMPS %d,<imm
    row 0x2a000000 never (compare Subs short_literal) ∷  -- CMPS %d,#short
    row 0x30000000 always (compute Sub from_register) ∷  -- SUB %d,%s
    row 0x32800000 always (compute Sub (literal Signed)) ∷  -- SUB %d,#imm
    row 0x33000000 always (compute Sub (literal Unsigned)) ∷  -- SUB %d,>imm
    row 0x33800000 always (compute Sub (literal Shifted)) ∷  -- SUB %d,<imm
    row 0x32000000 never (compute Sub short_literal) ∷  -- SUB %d,#short
    row 0x38000000 always (compute Subs from_register) ∷  -- SUBS %d,%s
    row 0x3a800000 always (compute Subs (literal Signed)) ∷  -- SUBS %d,#imm
    row 0x3b000000 always (compute Subs (literal Unsigned)) ∷  -- SUBS %d,>imm
    row 0x3b800000 always (compute Subs (literal Shifted)) ∷  -- SUBS %d,<imm
    row 0x3a000000 never (compute Subs short_literal) ∷  -- SUBS %d,#short
    row 0x40000000 always (compute Add from_register) ∷  -- ADD %d,%s
    row 0x42800000 always (compute Add (literal Signed)) ∷  -- ADD %d,#imm
    row 0x43000000 always (compute Add (literal Unsigned)) ∷  -- ADD %d,>imm
    row 0x43800000 always (compute Add (literal Shifted)) ∷  -- ADD %d,<imm
    row 0x42000000 never (compute Add short_literal) ∷  -- ADD %d,#short
    row 0x48000000 always (compute Addc from_register) ∷  -- ADDC %d,%s
    row 0x4a800000 always (compute Addc (literal Signed)) ∷  -- ADDC %d,#imm
    row 0x4b000000 always (compute Addc (literal Unsigned)) ∷  -- ADDC %d,>imm
    row 0x4b800000 always (compute Addc (literal Shifted)) ∷  -- ADDC %d,<imm
    row 0x4a000000 never (compute Addc short_literal) ∷  -- ADDC %d,#short
    row 0x50000000 always (compute Subc from_register) ∷  -- SUBC %d,%s
    row 0x52800000 always (compute Subc (literal Signed)) ∷  -- SUBC %d,#imm
    row 0x53000000 always (compute Subc (literal Unsigned)) ∷  -- SUBC %d,>imm
    row 0x53800000 always (compute Subc (literal Shifted)) ∷  -- SUBC %d,<imm
    row 0x52000000 never (compute Subc short_literal) ∷  -- SUBC %d,#short
    row 0x70000000 mult (multiply from_register) ∷  -- MUL %d,%s
    row 0x72800000 mult (multiply (literal Signed)) ∷  -- MUL %d,#imm
    row 0x73000000 mult (multiply (literal Unsigned)) ∷  -- MUL %d,>imm
    row 0x73800000 mult (multiply (literal Shifted)) ∷  -- MUL %d,<imm
    row 0x72000000 never (multiply short_literal) ∷  -- MUL %d,#short
    row 0x80000000 level1 (compute Shr from_register) ∷  -- SHR %d,%s
    row 0x80800000 level1 (compute Shra from_register) ∷  -- SHRA %d,%s
    row 0x82000000 level1 (compute Shl from_register) ∷  -- SHL %d,%s
    row 0x81000000 always (compute Shr counted) ∷  -- SHR %d,#count
    row 0x81800000 always (compute Shra counted) ∷  -- SHRA %d,#count
    row 0x83000000 always (compute Shl counted) ∷  -- SHL %d,#count
    row 0x90000000 level1 (compute Rotr from_register) ∷  -- ROTR %d,%s
    row 0x92000000 level1 (compute Rotl from_register) ∷  -- ROTL %d,%s
    row 0x93000000 level1 (compute Shl16 from_register) ∷  -- SHL16 %d,%s
    row 0x90800000 level1 (compute Abs from_register) ∷  -- ABS %d,%s
    row 0x91800000 level1 (compute Clz from_register) ∷  -- CLZ %d,%s
    row 0x98000100 level2 (bytewise Bst) ∷  -- BSTN %d,%s
    row 0x98000200 level2 (bytewise Bld) ∷  -- BLDN %d,%s
    row 0x98000600 level2 (bytewise Blds) ∷  -- BLDSN %d,%s
    row 0x98001400 level2 load_index ∷  -- LDYX %RY,%RX
    row 0x98001800 level2_memory index_store ∷  -- MOVX @%d,@%X+
    row 0x98001c00 level2_memory index_load ∷  -- MOVX @%X+,@%s
    row 0xa0000000 always move ∷  -- MOV %d,%s
    row 0xa2800000 always (load_constant Signed) ∷  -- MOV %d,#imm
    row 0xa3000000 always (load_constant Unsigned) ∷  -- MOV %d,>imm
    row 0xa3800000 always (load_constant Shifted) ∷  -- MOV %d,<imm
    row 0xa1000000 memory load_register ∷  -- MOV %d,@%s
    row 0xa1800000 memory load_direct ∷  -- MOV %d,&a
    row 0xa8000000 memory store_register ∷  -- MOV @%d,%s
    row 0xac000000 memory store_direct ∷  -- MOV &a,%s
    row 0xb1000000 ports port_read ∷  -- MOVIO %d,@%s
    row 0xb1008000 rmw port_modify ∷  -- IORMW %d,@%s
    row 0xb8000000 ports (port_write from_register) ∷  -- MOVIO @%d,%s
    row 0xba800000 ports (port_write (literal Signed)) ∷  -- MOVIO @%d,#imm
    row 0xbb000000 ports (port_write (literal Unsigned)) ∷  -- MOVIO @%d,>imm
    row 0xbb800000 ports (port_write (literal Shifted)) ∷  -- MOVIO @%d,<imm
    row 0xc0000000 always jump ∷  -- JMP target
    row 0xc0800000 always (branch Z) ∷  -- JMP target,Z
    row 0xc1000000 always (branch NZ) ∷  -- JMP target,NZ
    row 0xc1800000 always (branch GT) ∷  -- JMP target,GT
    row 0xc2000000 always (branch LT) ∷  -- JMP target,LT
    row 0xc2800000 always (branch GE) ∷  -- JMP target,GE
    row 0xc3000000 always (branch LE) ∷  -- JMP target,LE
    row 0xc3800000 never (branch NIRQ) ∷  -- JMP target,NIRQ
    row 0xc4000000 never (branch B0) ∷  -- JMP target,B0
    row 0xc4800000 never (branch B1) ∷  -- JMP target,B1
    row 0xc5000000 never (branch NB0) ∷  -- JMP target,NB0
    row 0xc5800000 never (branch NB1) ∷  -- JMP target,NB1
    row 0xc6000000 ports (branch BIO) ∷  -- JMP target,BIO
    row 0xc8000000 always jump_register ∷  -- JMP @%d
    row 0xc8800000 always (branch_register Z) ∷  -- JMP @%d,Z
    row 0xc9000000 always (branch_register NZ) ∷  -- JMP @%d,NZ
    row 0xc9800000 always (branch_register GT) ∷  -- JMP @%d,GT
    row 0xca000000 always (branch_register LT) ∷  -- JMP @%d,LT
    row 0xca800000 always (branch_register GE) ∷  -- JMP @%d,GE
    row 0xcb000000 always (branch_register LE) ∷  -- JMP @%d,LE
    row 0xcb800000 never (branch_register NIRQ) ∷  -- JMP @%d,NIRQ
    row 0xcc000000 never (branch_register B0) ∷  -- JMP @%d,B0
    row 0xcc800000 never (branch_register B1) ∷  -- JMP @%d,B1
    row 0xcd000000 never (branch_register NB0) ∷  -- JMP @%d,NB0
    row 0xcd800000 never (branch_register NB1) ∷  -- JMP @%d,NB1
    row 0xce000000 ports (branch_register BIO) ∷  -- JMP @%d,BIO
    unsupported_row 0xe0000000 (bare plus NUMBER ≔ coprocessor plus DESTINATION ≔ register plus VALUE ≔ immediate) ∷  -- COPid %s,#imm,channel
    row 0xf0800000 always call ∷  -- JSR target
    row 0xf8800000 always call_register ∷  -- JSR @%d
    row 0xf2800000 always ret_constant ∷  -- RLD %d,#imm
    row 0xf1000000 banks enter_bank ∷  -- JSRWP address,WP
    unsupported_row 0xf2000000 (bare plus DESTINATION ≔ mask) ∷  -- IRQ_ON mask
    unsupported_row 0xf2400000 (bare plus DESTINATION ≔ mask) ∷  -- IRQ_OFF mask
    row 0xf0000000 always ret ∷  -- RET
    row 0xf0010000 banks leave_bank ∷  -- RETWP
    unsupported_row 0xf0020000 bare ∷  -- RETI
    row 0xf0040000 spr leave_special ∷  -- SPR_OFF
    row 0xf0050000 spr enter_special ∷  -- SPR_ON
    unsupported_row 0xf0060000 bare ∷  -- IRQM_RLD
    unsupported_row 0xf0070000 bare ∷  -- IRQM_SS
    []

unfoldable pub row_at : ℕ → Row
row_at n = get_or rows n no_row
