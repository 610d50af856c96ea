-- The text of each row, a line each, as manual 5 writes it: the row by its word with all parts zero, in the order of the rows (words, Rows.antt).
-- Written by tools/texts.
use Rattle.std.specs.Prelude.{ℕ, List, [], ◌∷◌, get_or}
use Rattle.syntax.specs.Operands.{Style, style, %d, %s, at-%d, at-%s, at-%X+, &a, #imm, >imm, <imm, #short, #count, target, address, offset, mask, when}

-- COP's operands, and the rows that are unsupported today, are never printed
unfoldable pub styles : List Style
styles =
    style 0x00000000 "TST" (%d ∷ %s ∷ []) ∷  -- TST %d,%s
    style 0x02800000 "TST" (%d ∷ #imm ∷ []) ∷  -- TST %d,#imm
    style 0x03000000 "TST" (%d ∷ >imm ∷ []) ∷  -- TST %d,>imm
    style 0x03800000 "TST" (%d ∷ <imm ∷ []) ∷  -- TST %d,<imm
    style 0x02000000 "TST" (%d ∷ #short ∷ []) ∷  -- TST %d,#short
    style 0x08000000 "AND" (%d ∷ %s ∷ []) ∷  -- AND %d,%s
    style 0x0a800000 "AND" (%d ∷ #imm ∷ []) ∷  -- AND %d,#imm
    style 0x0b000000 "AND" (%d ∷ >imm ∷ []) ∷  -- AND %d,>imm
    style 0x0b800000 "AND" (%d ∷ <imm ∷ []) ∷  -- AND %d,<imm
    style 0x0a000000 "AND" (%d ∷ #short ∷ []) ∷  -- AND %d,#short
    style 0x10000000 "OR" (%d ∷ %s ∷ []) ∷  -- OR %d,%s
    style 0x12800000 "OR" (%d ∷ #imm ∷ []) ∷  -- OR %d,#imm
    style 0x13000000 "OR" (%d ∷ >imm ∷ []) ∷  -- OR %d,>imm
    style 0x13800000 "OR" (%d ∷ <imm ∷ []) ∷  -- OR %d,<imm
    style 0x12000000 "OR" (%d ∷ #short ∷ []) ∷  -- OR %d,#short
    style 0x18000000 "XOR" (%d ∷ %s ∷ []) ∷  -- XOR %d,%s
    style 0x1a800000 "XOR" (%d ∷ #imm ∷ []) ∷  -- XOR %d,#imm
    style 0x1b000000 "XOR" (%d ∷ >imm ∷ []) ∷  -- XOR %d,>imm
    style 0x1b800000 "XOR" (%d ∷ <imm ∷ []) ∷  -- XOR %d,<imm
    style 0x1a000000 "XOR" (%d ∷ #short ∷ []) ∷  -- XOR %d,#short
    style 0x20000000 "CMP" (%d ∷ %s ∷ []) ∷  -- CMP %d,%s
    style 0x22800000 "CMP" (%d ∷ #imm ∷ []) ∷  -- CMP %d,#imm
    style 0x23000000 "CMP" (%d ∷ >imm ∷ []) ∷  -- CMP %d,>imm
    style 0x23800000 "CMP" (%d ∷ <imm ∷ []) ∷  -- CMP %d,<imm
    style 0x22000000 "CMP" (%d ∷ #short ∷ []) ∷  -- CMP %d,#short
    style 0x28000000 "CMPS" (%d ∷ %s ∷ []) ∷  -- CMPS %d,%s
    style 0x2a800000 "CMPS" (%d ∷ #imm ∷ []) ∷  -- CMPS %d,#imm
    style 0x2b000000 "CMPS" (%d ∷ >imm ∷ []) ∷  -- CMPS %d,>imm
    style 0x2b800000 "CMPS" (%d ∷ <imm ∷ []) ∷  -- CMPS %d,<imm
    style 0x2a000000 "CMPS" (%d ∷ #short ∷ []) ∷  -- CMPS %d,#short
    style 0x30000000 "SUB" (%d ∷ %s ∷ []) ∷  -- SUB %d,%s
    style 0x32800000 "SUB" (%d ∷ #imm ∷ []) ∷  -- SUB %d,#imm
    style 0x33000000 "SUB" (%d ∷ >imm ∷ []) ∷  -- SUB %d,>imm
    style 0x33800000 "SUB" (%d ∷ <imm ∷ []) ∷  -- SUB %d,<imm
    style 0x32000000 "SUB" (%d ∷ #short ∷ []) ∷  -- SUB %d,#short
    style 0x38000000 "SUBS" (%d ∷ %s ∷ []) ∷  -- SUBS %d,%s
    style 0x3a800000 "SUBS" (%d ∷ #imm ∷ []) ∷  -- SUBS %d,#imm
    style 0x3b000000 "SUBS" (%d ∷ >imm ∷ []) ∷  -- SUBS %d,>imm
    style 0x3b800000 "SUBS" (%d ∷ <imm ∷ []) ∷  -- SUBS %d,<imm
    style 0x3a000000 "SUBS" (%d ∷ #short ∷ []) ∷  -- SUBS %d,#short
    style 0x40000000 "ADD" (%d ∷ %s ∷ []) ∷  -- ADD %d,%s
    style 0x42800000 "ADD" (%d ∷ #imm ∷ []) ∷  -- ADD %d,#imm
    style 0x43000000 "ADD" (%d ∷ >imm ∷ []) ∷  -- ADD %d,>imm
    style 0x43800000 "ADD" (%d ∷ <imm ∷ []) ∷  -- ADD %d,<imm
    style 0x42000000 "ADD" (%d ∷ #short ∷ []) ∷  -- ADD %d,#short
    style 0x48000000 "ADDC" (%d ∷ %s ∷ []) ∷  -- ADDC %d,%s
    style 0x4a800000 "ADDC" (%d ∷ #imm ∷ []) ∷  -- ADDC %d,#imm
    style 0x4b000000 "ADDC" (%d ∷ >imm ∷ []) ∷  -- ADDC %d,>imm
    style 0x4b800000 "ADDC" (%d ∷ <imm ∷ []) ∷  -- ADDC %d,<imm
    style 0x4a000000 "ADDC" (%d ∷ #short ∷ []) ∷  -- ADDC %d,#short
    style 0x50000000 "SUBC" (%d ∷ %s ∷ []) ∷  -- SUBC %d,%s
    style 0x52800000 "SUBC" (%d ∷ #imm ∷ []) ∷  -- SUBC %d,#imm
    style 0x53000000 "SUBC" (%d ∷ >imm ∷ []) ∷  -- SUBC %d,>imm
    style 0x53800000 "SUBC" (%d ∷ <imm ∷ []) ∷  -- SUBC %d,<imm
    style 0x52000000 "SUBC" (%d ∷ #short ∷ []) ∷  -- SUBC %d,#short
    style 0x70000000 "MUL" (%d ∷ %s ∷ []) ∷  -- MUL %d,%s
    style 0x72800000 "MUL" (%d ∷ #imm ∷ []) ∷  -- MUL %d,#imm
    style 0x73000000 "MUL" (%d ∷ >imm ∷ []) ∷  -- MUL %d,>imm
    style 0x73800000 "MUL" (%d ∷ <imm ∷ []) ∷  -- MUL %d,<imm
    style 0x72000000 "MUL" (%d ∷ #short ∷ []) ∷  -- MUL %d,#short
    style 0x80000000 "SHR" (%d ∷ %s ∷ []) ∷  -- SHR %d,%s
    style 0x80800000 "SHRA" (%d ∷ %s ∷ []) ∷  -- SHRA %d,%s
    style 0x82000000 "SHL" (%d ∷ %s ∷ []) ∷  -- SHL %d,%s
    style 0x81000000 "SHR" (%d ∷ #count ∷ []) ∷  -- SHR %d,#count
    style 0x81800000 "SHRA" (%d ∷ #count ∷ []) ∷  -- SHRA %d,#count
    style 0x83000000 "SHL" (%d ∷ #count ∷ []) ∷  -- SHL %d,#count
    style 0x90000000 "ROTR" (%d ∷ %s ∷ []) ∷  -- ROTR %d,%s
    style 0x92000000 "ROTL" (%d ∷ %s ∷ []) ∷  -- ROTL %d,%s
    style 0x93000000 "SHL16" (%d ∷ %s ∷ []) ∷  -- SHL16 %d,%s
    style 0x90800000 "ABS" (%d ∷ %s ∷ []) ∷  -- ABS %d,%s
    style 0x91800000 "CLZ" (%d ∷ %s ∷ []) ∷  -- CLZ %d,%s
    style 0x98000100 "BST" (%d ∷ %s ∷ []) ∷  -- BSTN %d,%s
    style 0x98000200 "BLD" (%d ∷ %s ∷ []) ∷  -- BLDN %d,%s
    style 0x98000600 "BLDS" (%d ∷ %s ∷ []) ∷  -- BLDSN %d,%s
    style 0x98001400 "LDYX" (%d ∷ %s ∷ []) ∷  -- LDYX %RY,%RX
    style 0x98001800 "MOVX" (at-%d ∷ at-%X+ ∷ []) ∷  -- MOVX @%d,@%X+
    style 0x98001c00 "MOVX" (at-%X+ ∷ at-%s ∷ []) ∷  -- MOVX @%X+,@%s
    style 0xa0000000 "MOV" (%d ∷ %s ∷ []) ∷  -- MOV %d,%s
    style 0xa2800000 "MOV" (%d ∷ #imm ∷ []) ∷  -- MOV %d,#imm
    style 0xa3000000 "MOV" (%d ∷ >imm ∷ []) ∷  -- MOV %d,>imm
    style 0xa3800000 "MOV" (%d ∷ <imm ∷ []) ∷  -- MOV %d,<imm
    style 0xa1000000 "MOV" (%d ∷ at-%s ∷ []) ∷  -- MOV %d,@%s
    style 0xa1800000 "MOV" (%d ∷ &a ∷ []) ∷  -- MOV %d,&a
    style 0xa8000000 "MOV" (at-%d ∷ %s ∷ []) ∷  -- MOV @%d,%s
    style 0xac000000 "MOV" (&a ∷ %d ∷ []) ∷  -- MOV &a,%s
    style 0xb1000000 "MOVIO" (%d ∷ at-%s ∷ []) ∷  -- MOVIO %d,@%s
    style 0xb1008000 "IORMW" (%d ∷ at-%s ∷ []) ∷  -- IORMW %d,@%s
    style 0xb8000000 "MOVIO" (at-%d ∷ %s ∷ []) ∷  -- MOVIO @%d,%s
    style 0xba800000 "MOVIO" (at-%d ∷ #imm ∷ []) ∷  -- MOVIO @%d,#imm
    style 0xbb000000 "MOVIO" (at-%d ∷ >imm ∷ []) ∷  -- MOVIO @%d,>imm
    style 0xbb800000 "MOVIO" (at-%d ∷ <imm ∷ []) ∷  -- MOVIO @%d,<imm
    style 0xc0000000 "JMP" (target ∷ []) ∷  -- JMP target
    style 0xc0800000 "JMP" (target ∷ when "Z" ∷ []) ∷  -- JMP target,Z
    style 0xc1000000 "JMP" (target ∷ when "NZ" ∷ []) ∷  -- JMP target,NZ
    style 0xc1800000 "JMP" (target ∷ when "GT" ∷ []) ∷  -- JMP target,GT
    style 0xc2000000 "JMP" (target ∷ when "LT" ∷ []) ∷  -- JMP target,LT
    style 0xc2800000 "JMP" (target ∷ when "GE" ∷ []) ∷  -- JMP target,GE
    style 0xc3000000 "JMP" (target ∷ when "LE" ∷ []) ∷  -- JMP target,LE
    style 0xc3800000 "JMP" (target ∷ when "NIRQ" ∷ []) ∷  -- JMP target,NIRQ
    style 0xc4000000 "JMP" (target ∷ when "B0" ∷ []) ∷  -- JMP target,B0
    style 0xc4800000 "JMP" (target ∷ when "B1" ∷ []) ∷  -- JMP target,B1
    style 0xc5000000 "JMP" (target ∷ when "NB0" ∷ []) ∷  -- JMP target,NB0
    style 0xc5800000 "JMP" (target ∷ when "NB1" ∷ []) ∷  -- JMP target,NB1
    style 0xc6000000 "JMP" (target ∷ when "BIO" ∷ []) ∷  -- JMP target,BIO
    style 0xc8000000 "JMP" (at-%d ∷ []) ∷  -- JMP @%d
    style 0xc8800000 "JMP" (at-%d ∷ when "Z" ∷ []) ∷  -- JMP @%d,Z
    style 0xc9000000 "JMP" (at-%d ∷ when "NZ" ∷ []) ∷  -- JMP @%d,NZ
    style 0xc9800000 "JMP" (at-%d ∷ when "GT" ∷ []) ∷  -- JMP @%d,GT
    style 0xca000000 "JMP" (at-%d ∷ when "LT" ∷ []) ∷  -- JMP @%d,LT
    style 0xca800000 "JMP" (at-%d ∷ when "GE" ∷ []) ∷  -- JMP @%d,GE
    style 0xcb000000 "JMP" (at-%d ∷ when "LE" ∷ []) ∷  -- JMP @%d,LE
    style 0xcb800000 "JMP" (at-%d ∷ when "NIRQ" ∷ []) ∷  -- JMP @%d,NIRQ
    style 0xcc000000 "JMP" (at-%d ∷ when "B0" ∷ []) ∷  -- JMP @%d,B0
    style 0xcc800000 "JMP" (at-%d ∷ when "B1" ∷ []) ∷  -- JMP @%d,B1
    style 0xcd000000 "JMP" (at-%d ∷ when "NB0" ∷ []) ∷  -- JMP @%d,NB0
    style 0xcd800000 "JMP" (at-%d ∷ when "NB1" ∷ []) ∷  -- JMP @%d,NB1
    style 0xce000000 "JMP" (at-%d ∷ when "BIO" ∷ []) ∷  -- JMP @%d,BIO
    style 0xe0000000 "COP" [] ∷  -- COPid %s,#imm,channel
    style 0xf0800000 "JSR" (target ∷ []) ∷  -- JSR target
    style 0xf8800000 "JSR" (at-%d ∷ []) ∷  -- JSR @%d
    style 0xf2800000 "RLD" (%d ∷ #imm ∷ []) ∷  -- RLD %d,#imm
    style 0xf1000000 "JSRWP" (address ∷ offset ∷ []) ∷  -- JSRWP address,WP
    style 0xf2000000 "IRQ_ON" (mask ∷ []) ∷  -- IRQ_ON mask
    style 0xf2400000 "IRQ_OFF" (mask ∷ []) ∷  -- IRQ_OFF mask
    style 0xf0000000 "RET" [] ∷  -- RET
    style 0xf0010000 "RETWP" [] ∷  -- RETWP
    style 0xf0020000 "RETI" [] ∷  -- RETI
    style 0xf0040000 "SPR_OFF" [] ∷  -- SPR_OFF
    style 0xf0050000 "SPR_ON" [] ∷  -- SPR_ON
    style 0xf0060000 "IRQM_RLD" [] ∷  -- IRQM_RLD
    style 0xf0070000 "IRQM_SS" [] ∷  -- IRQM_SS
    []

unfoldable pub style_at : ℕ → Style
style_at n = get_or styles n (style 0 "" [])
