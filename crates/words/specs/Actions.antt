-- How code looks a row up: tables that only the proofs need to agree with (proofs/Lookup.antt); nothing here is to be believed. Written by tools/rows.
use Rattle.std.specs.Prelude.{ℕ, List, [], ◌∷◌}
use Rattle.words.specs.declared.Form.{Form}
use Rattle.words.specs.declared.Operation.TheVariants.{And, Or, Xor, Add, Addc, Sub, Subc, Subs, Shl, Shr, Shra, Rotl, Rotr, Shl16, Abs, Clz, Bst, Bld, Blds}
use Rattle.words.specs.Parts.{Part, unused, register, unit, immediate, read_address, write_address, target, count, bank_address}
use Rattle.words.specs.Parts.{Option, always, mult, level1, level2, level2_memory, memory, ports, rmw, banks, spr, never}
use Rattle.words.specs.Kinds.{from_register, literal, counted}
use Rattle.words.specs.Kinds.{Condition}
use Rattle.words.specs.Kinds.{Kind, unsupported, compute, compare, multiply, bytewise, load_index, index_store, index_load, move, load_constant, load_register, load_direct, store_register, store_direct, port_read, port_modify, port_write, jump, branch, jump_register, branch_register, call, call_register, ret, ret_constant, enter_bank, leave_bank, enter_special, leave_special}

-- which parts of a word an action reads

abbrev pub flag' : ℕ
flag' = 1

abbrev pub destination' : ℕ
destination' = 2

abbrev pub source' : ℕ
source' = 4

abbrev pub number' : ℕ
number' = 8

abbrev pub value' : ℕ
value' = 16

abbrev pub target' : ℕ
target' = 32

abbrev pub unit' : ℕ
unit' = 64

-- An action: a kind but for the form of its immediate and its condition, and the parts that it reads, by their marks added up.
pub record Action : Type 0 where
  pub does : Form → Condition → Kind
  pub uses : ℕ

abbrev pub action : (Form → Condition → Kind) → ℕ → Action
action does uses = record { does = does; uses = uses }

unfoldable pub actions : List Action
actions =
    action (λ f c. unsupported) 0 ∷  -- unsupported
    action (λ f c. compare And from_register) 7 ∷  -- TST-register
    action (λ f c. compare And (literal f)) 19 ∷  -- TST-immediate
    action (λ f c. compute And from_register) 7 ∷  -- AND-register
    action (λ f c. compute And (literal f)) 19 ∷  -- AND-immediate
    action (λ f c. compute Or from_register) 7 ∷  -- OR-register
    action (λ f c. compute Or (literal f)) 19 ∷  -- OR-immediate
    action (λ f c. compute Xor from_register) 7 ∷  -- XOR-register
    action (λ f c. compute Xor (literal f)) 19 ∷  -- XOR-immediate
    action (λ f c. compare Sub from_register) 7 ∷  -- CMP-register
    action (λ f c. compare Sub (literal f)) 19 ∷  -- CMP-immediate
    action (λ f c. compare Subs from_register) 7 ∷  -- CMPS-register
    action (λ f c. compare Subs (literal f)) 19 ∷  -- CMPS-immediate
    action (λ f c. compute Sub from_register) 7 ∷  -- SUB-register
    action (λ f c. compute Sub (literal f)) 19 ∷  -- SUB-immediate
    action (λ f c. compute Subs from_register) 7 ∷  -- SUBS-register
    action (λ f c. compute Subs (literal f)) 19 ∷  -- SUBS-immediate
    action (λ f c. compute Add from_register) 7 ∷  -- ADD-register
    action (λ f c. compute Add (literal f)) 19 ∷  -- ADD-immediate
    action (λ f c. compute Addc from_register) 7 ∷  -- ADDC-register
    action (λ f c. compute Addc (literal f)) 19 ∷  -- ADDC-immediate
    action (λ f c. compute Subc from_register) 7 ∷  -- SUBC-register
    action (λ f c. compute Subc (literal f)) 19 ∷  -- SUBC-immediate
    action (λ f c. multiply from_register) 7 ∷  -- MUL-register
    action (λ f c. multiply (literal f)) 19 ∷  -- MUL-immediate
    action (λ f c. compute Shr from_register) 7 ∷  -- SHR-register
    action (λ f c. compute Shra from_register) 7 ∷  -- SHRA-register
    action (λ f c. compute Shl from_register) 7 ∷  -- SHL-register
    action (λ f c. compute Shr counted) 19 ∷  -- SHR-count
    action (λ f c. compute Shra counted) 19 ∷  -- SHRA-count
    action (λ f c. compute Shl counted) 19 ∷  -- SHL-count
    action (λ f c. compute Rotr from_register) 7 ∷  -- ROTR
    action (λ f c. compute Rotl from_register) 7 ∷  -- ROTL
    action (λ f c. compute Shl16 from_register) 7 ∷  -- SHL16
    action (λ f c. compute Abs from_register) 7 ∷  -- ABS
    action (λ f c. compute Clz from_register) 7 ∷  -- CLZ
    action (λ f c. bytewise Bst) 15 ∷  -- BST
    action (λ f c. bytewise Bld) 15 ∷  -- BLD
    action (λ f c. bytewise Blds) 15 ∷  -- BLDS
    action (λ f c. load_index) 7 ∷  -- LDYX
    action (λ f c. index_store) 3 ∷  -- MOVX-to
    action (λ f c. index_load) 5 ∷  -- MOVX-from
    action (λ f c. move) 6 ∷  -- MOV-register
    action (λ f c. load_constant f) 18 ∷  -- MOV-immediate
    action (λ f c. load_register) 6 ∷  -- MOV-from-register
    action (λ f c. load_direct) 18 ∷  -- MOV-from-address
    action (λ f c. store_register) 6 ∷  -- MOV-to-register
    action (λ f c. store_direct) 18 ∷  -- MOV-to-address
    action (λ f c. port_read) 6 ∷  -- MOVIO-read
    action (λ f c. port_modify) 6 ∷  -- IORMW
    action (λ f c. port_write from_register) 6 ∷  -- MOVIO-register
    action (λ f c. port_write (literal f)) 18 ∷  -- MOVIO-immediate
    action (λ f c. jump) 32 ∷  -- JMP-ALWAYS
    action (λ f c. branch c) 32 ∷  -- JMP-condition
    action (λ f c. jump_register) 2 ∷  -- JMP-register-ALWAYS
    action (λ f c. branch_register c) 2 ∷  -- JMP-register-condition
    action (λ f c. call) 32 ∷  -- JSR
    action (λ f c. call_register) 2 ∷  -- JSR-register
    action (λ f c. ret_constant) 18 ∷  -- RLD
    action (λ f c. enter_bank) 80 ∷  -- JSRWP
    action (λ f c. ret) 0 ∷  -- RET
    action (λ f c. leave_bank) 0 ∷  -- RETWP
    action (λ f c. leave_special) 0 ∷  -- SPR-OFF
    action (λ f c. enter_special) 0 ∷  -- SPR-ON
    []

-- A check: the code in bits 22-0, what bits 22-16 and 15-0 hold beside it, the option, and whether there is a byte number.
pub record Check : Type 0 where
  pub code : ℕ
  pub upper : Part
  pub lower : Part
  pub option : Option
  pub numbered : ℕ

abbrev pub check : ℕ → Part → Part → Option → ℕ → Check
check code upper lower option numbered =
    record { code = code; upper = upper; lower = lower; option = option; numbered = numbered }

-- the first refuses everything
unfoldable pub checks : List Check
checks =
    check 0 unused unused never 0 ∷
    check 0x0 register register always 0 ∷
    check 0x0 register immediate always 0 ∷
    check 0x0 register register mult 0 ∷
    check 0x0 register immediate mult 0 ∷
    check 0x0 register register level1 0 ∷
    check 0x0 register count always 0 ∷
    check 0x100 register register level2 1 ∷
    check 0x200 register register level2 1 ∷
    check 0x600 register register level2 1 ∷
    check 0x1400 register register level2 0 ∷
    check 0x1800 register unused level2_memory 0 ∷
    check 0x1c00 unused register level2_memory 0 ∷
    check 0x0 register register memory 0 ∷
    check 0x0 register read_address memory 0 ∷
    check 0x0 register write_address memory 0 ∷
    check 0x0 register register ports 0 ∷
    check 0x8000 register register rmw 0 ∷
    check 0x0 register immediate ports 0 ∷
    check 0x0 unused target always 0 ∷
    check 0x0 unused target ports 0 ∷
    check 0x0 register unused always 0 ∷
    check 0x0 register unused ports 0 ∷
    check 0x0 unit bank_address banks 0 ∷
    check 0x0 unused unused always 0 ∷
    check 0x10000 unused unused banks 0 ∷
    check 0x40000 unused unused spr 0 ∷
    check 0x50000 unused unused spr 0 ∷
    []

-- a row's check, its condition, the form of its immediate and its action, as digits of one number
unfoldable pub entries : List ℕ
entries =
    0x04000001 ∷  -- TST %d,%s
    0x08000002 ∷  -- TST %d,#imm
    0x08001002 ∷  -- TST %d,>imm
    0x08002002 ∷  -- TST %d,<imm
    0x00000000 ∷  -- TST %d,#short
    0x0c000001 ∷  -- AND %d,%s
    0x10000002 ∷  -- AND %d,#imm
    0x10001002 ∷  -- AND %d,>imm
    0x10002002 ∷  -- AND %d,<imm
    0x00000000 ∷  -- AND %d,#short
    0x14000001 ∷  -- OR %d,%s
    0x18000002 ∷  -- OR %d,#imm
    0x18001002 ∷  -- OR %d,>imm
    0x18002002 ∷  -- OR %d,<imm
    0x00000000 ∷  -- OR %d,#short
    0x1c000001 ∷  -- XOR %d,%s
    0x20000002 ∷  -- XOR %d,#imm
    0x20001002 ∷  -- XOR %d,>imm
    0x20002002 ∷  -- XOR %d,<imm
    0x00000000 ∷  -- XOR %d,#short
    0x24000001 ∷  -- CMP %d,%s
    0x28000002 ∷  -- CMP %d,#imm
    0x28001002 ∷  -- CMP %d,>imm
    0x28002002 ∷  -- CMP %d,<imm
    0x00000000 ∷  -- CMP %d,#short
    0x2c000001 ∷  -- CMPS %d,%s
    0x30000002 ∷  -- CMPS %d,#imm
    0x30001002 ∷  -- CMPS %d,>imm
    0x30002002 ∷  -- CMPS %d,<imm
    0x00000000 ∷  -- CMPS %d,#short
    0x34000001 ∷  -- SUB %d,%s
    0x38000002 ∷  -- SUB %d,#imm
    0x38001002 ∷  -- SUB %d,>imm
    0x38002002 ∷  -- SUB %d,<imm
    0x00000000 ∷  -- SUB %d,#short
    0x3c000001 ∷  -- SUBS %d,%s
    0x40000002 ∷  -- SUBS %d,#imm
    0x40001002 ∷  -- SUBS %d,>imm
    0x40002002 ∷  -- SUBS %d,<imm
    0x00000000 ∷  -- SUBS %d,#short
    0x44000001 ∷  -- ADD %d,%s
    0x48000002 ∷  -- ADD %d,#imm
    0x48001002 ∷  -- ADD %d,>imm
    0x48002002 ∷  -- ADD %d,<imm
    0x00000000 ∷  -- ADD %d,#short
    0x4c000001 ∷  -- ADDC %d,%s
    0x50000002 ∷  -- ADDC %d,#imm
    0x50001002 ∷  -- ADDC %d,>imm
    0x50002002 ∷  -- ADDC %d,<imm
    0x00000000 ∷  -- ADDC %d,#short
    0x54000001 ∷  -- SUBC %d,%s
    0x58000002 ∷  -- SUBC %d,#imm
    0x58001002 ∷  -- SUBC %d,>imm
    0x58002002 ∷  -- SUBC %d,<imm
    0x00000000 ∷  -- SUBC %d,#short
    0x5c000003 ∷  -- MUL %d,%s
    0x60000004 ∷  -- MUL %d,#imm
    0x60001004 ∷  -- MUL %d,>imm
    0x60002004 ∷  -- MUL %d,<imm
    0x00000000 ∷  -- MUL %d,#short
    0x64000005 ∷  -- SHR %d,%s
    0x68000005 ∷  -- SHRA %d,%s
    0x6c000005 ∷  -- SHL %d,%s
    0x70000006 ∷  -- SHR %d,#count
    0x74000006 ∷  -- SHRA %d,#count
    0x78000006 ∷  -- SHL %d,#count
    0x7c000005 ∷  -- ROTR %d,%s
    0x80000005 ∷  -- ROTL %d,%s
    0x84000005 ∷  -- SHL16 %d,%s
    0x88000005 ∷  -- ABS %d,%s
    0x8c000005 ∷  -- CLZ %d,%s
    0x90000007 ∷  -- BSTN %d,%s
    0x94000008 ∷  -- BLDN %d,%s
    0x98000009 ∷  -- BLDSN %d,%s
    0x9c00000a ∷  -- LDYX %RY,%RX
    0xa000000b ∷  -- MOVX @%d,@%X+
    0xa400000c ∷  -- MOVX @%X+,@%s
    0xa8000001 ∷  -- MOV %d,%s
    0xac000002 ∷  -- MOV %d,#imm
    0xac001002 ∷  -- MOV %d,>imm
    0xac002002 ∷  -- MOV %d,<imm
    0xb000000d ∷  -- MOV %d,@%s
    0xb400000e ∷  -- MOV %d,&a
    0xb800000d ∷  -- MOV @%d,%s
    0xbc00000f ∷  -- MOV &a,%s
    0xc0000010 ∷  -- MOVIO %d,@%s
    0xc4000011 ∷  -- IORMW %d,@%s
    0xc8000010 ∷  -- MOVIO @%d,%s
    0xcc000012 ∷  -- MOVIO @%d,#imm
    0xcc001012 ∷  -- MOVIO @%d,>imm
    0xcc002012 ∷  -- MOVIO @%d,<imm
    0xd0000013 ∷  -- JMP target
    0xd4000113 ∷  -- JMP target,Z
    0xd4000213 ∷  -- JMP target,NZ
    0xd4000313 ∷  -- JMP target,GT
    0xd4000413 ∷  -- JMP target,LT
    0xd4000513 ∷  -- JMP target,GE
    0xd4000613 ∷  -- JMP target,LE
    0x00000700 ∷  -- JMP target,NIRQ
    0x00000800 ∷  -- JMP target,B0
    0x00000900 ∷  -- JMP target,B1
    0x00000a00 ∷  -- JMP target,NB0
    0x00000b00 ∷  -- JMP target,NB1
    0xd4000c14 ∷  -- JMP target,BIO
    0xd8000015 ∷  -- JMP @%d
    0xdc000115 ∷  -- JMP @%d,Z
    0xdc000215 ∷  -- JMP @%d,NZ
    0xdc000315 ∷  -- JMP @%d,GT
    0xdc000415 ∷  -- JMP @%d,LT
    0xdc000515 ∷  -- JMP @%d,GE
    0xdc000615 ∷  -- JMP @%d,LE
    0x00000700 ∷  -- JMP @%d,NIRQ
    0x00000800 ∷  -- JMP @%d,B0
    0x00000900 ∷  -- JMP @%d,B1
    0x00000a00 ∷  -- JMP @%d,NB0
    0x00000b00 ∷  -- JMP @%d,NB1
    0xdc000c16 ∷  -- JMP @%d,BIO
    0x00000000 ∷  -- COPid %s,#imm,channel
    0xe0000013 ∷  -- JSR target
    0xe4000015 ∷  -- JSR @%d
    0xe8000002 ∷  -- RLD %d,#imm
    0xec000017 ∷  -- JSRWP address,WP
    0x00000000 ∷  -- IRQ_ON mask
    0x00000000 ∷  -- IRQ_OFF mask
    0xf0000018 ∷  -- RET
    0xf4000019 ∷  -- RETWP
    0x00000000 ∷  -- RETI
    0xf800001a ∷  -- SPR_OFF
    0xfc00001b ∷  -- SPR_ON
    0x00000000 ∷  -- IRQM_RLD
    0x00000000 ∷  -- IRQM_SS
    []
