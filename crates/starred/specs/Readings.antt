-- Readings of the rules that are easily taken otherwise, each with what the definitions answer: a second list with one claim.
use Rattle.std.specs.Prelude.{ℕ, Bool, true, ◌&&◌, List, [], ◌∷◌, T, eqb}
use Rattle.laws.specs.Choice.{pick}
use Rattle.words.specs.Words.{parts_of, read_of, write_of}
use Rattle.words.specs.Facts.{facts_of}
use Rattle.state.specs.declared.Core.{Core}
use Rattle.state.specs.State.{State}
use Rattle.state.specs.Cores.{◌but◌≔◌, RX, RY, LOADED}
use Rattle.starred.specs.Cases.{sized, configured, full, core_at, around, holding, pair, stepped, leaves, Case, answers, computes, right}

-- PC, the mark of an LDYX, RX and RY, and what %05 holds; W 32, DM_SIZE 20 hex
abbrev pub pointing : ℕ → ℕ → ℕ → ℕ → ℕ → State
pointing pc loaded x y a = around full (core_at pc 0 0 0 0 but LOADED ≔ loaded but RX ≔ x but RY ≔ y) (holding full 5 a)

pub data Reading : Type 0 where
  result : Case → Reading
  keeps : ℕ → ℕ → ℕ → ℕ → ℕ → ℕ → Reading  -- a word, %02 and %03 before it; %02 after it, Z and N before and after it
  parts : ℕ → ℕ → ℕ → ℕ → Reading  -- a word, and its destination, source and value as they are read
  bars : ℕ → ℕ → Reading  -- a word, and 1 where rule 3 bars its instruction
  points : ℕ → ℕ → ℕ → ℕ → ℕ → ℕ → Reading  -- a word; the mark, RX, RY and what %05 holds before it; the number that its step answers
  loads : ℕ → ℕ → ℕ → Reading  -- a word, and what it leaves in RX and RY, the mark 1 whatever it was
  within : ℕ → ℕ → ℕ → Reading  -- a word in an image of so many words, and the number that reading it answers, and writing its parts

abbrev pub so : Reading → Bool
so (result k) = right k
so (keeps w d s v z n) = leaves (stepped full w (pair full 0 n z 0 d s)) (pair full 1 n z 0 v s)
so (parts w d s v) =
    let r = read_of full w in
    let i = r.instruction in
    eqb r.number 0 && (eqb i.destination d && (eqb i.source s && eqb i.value v))
so (within size w n) =
    let c = sized size 32 64 2 32 in
    eqb (read_of c w).number n && eqb (write_of c (parts_of c w)).number n
so (points w loaded x y a n) = eqb (stepped full w (pointing 0 loaded x y a)).number n
so (loads w x y) = leaves (stepped full w (pointing 0 0 0 0 0)) (pointing 1 1 x y 0) && leaves (stepped full w (pointing 0 1 3 3 0)) (pointing 1 1 x y 0)
so (bars w x) = eqb (read_of full w).number 0 && eqb (pick (facts_of (parts_of full w).row).barred 1 0) x

abbrev pub readings : List Reading
readings =
    result (answers (configured 16 16 2 32) 0 0) ∷
    result (answers (configured 16 64 2 32) 0 1) ∷  -- "banks; W must be 32"
    result (answers (configured 32 64 2 2) 0 0) ∷
    result (answers (configured 32 64 2 1) 0 1) ∷  -- "DM_SIZE 0 or a power of two from 2"
    result (answers full 0x00100000 7) ∷  -- a register is compared with REG_SIZE, not with RM_SIZE
    result (answers (configured 32 64 0 32) 0x81000001 0) ∷
    result (answers (configured 32 64 0 32) 0x81000000 7) ∷  -- a count is 1 at level 0
    keeps 0x44020003 0xffffffff 1 0 0 0 ∷  -- ADD %02,%03: bit 26 = 1 leaves the flags; with 0 both would be set
    result (computes 0x90820003 0 0xffffffff 1 0 1) ∷  -- ABS %02,%03,S: N is the source's sign, not the result's
    -- which column a register stands in: a case for each kind that has one
    parts 0x40010002 1 2 0 ∷  -- ADD %01,%02
    parts 0x98040201 4 1 0 ∷  -- BLD0 %04,%01
    parts 0x98041402 4 2 0 ∷  -- LDYX %04,%02
    parts 0x98051800 5 0 0 ∷  -- MOVX @%05,@%X+
    parts 0x98001c05 0 5 0 ∷  -- MOVX @%X+,@%05
    parts 0xa0030004 3 4 0 ∷  -- MOV %03,%04
    parts 0xa2830005 3 0 5 ∷  -- MOV %03,#0005
    parts 0xa1030004 3 4 0 ∷  -- MOV %03,@%04
    parts 0xa1830005 3 0 5 ∷  -- MOV %03,&0005
    parts 0xa8030004 3 4 0 ∷  -- MOV @%03,%04
    parts 0xac030005 3 0 5 ∷  -- MOV &0005,%03
    parts 0xb1030004 3 4 0 ∷  -- MOVIO %03,@%04
    parts 0xb8030004 3 4 0 ∷  -- MOVIO @%03,%04
    parts 0xc8030000 3 0 0 ∷  -- JMP @%03
    parts 0xf8830000 3 0 0 ∷  -- JSR @%03
    parts 0xf2830005 3 0 5 ∷  -- RLD %03,#0005
    parts 0xf1020040 2 0 64 ∷  -- JSRWP 0040,020
    bars 0xc8000000 1 ∷  -- JMP @%d
    bars 0xc0000000 0 ∷  -- JMP target
    -- K2: "A direct JMP or JSR target at or above IM_SIZE is to be refused when the word is read or written, and so is a JSRWP address."
    within 6 0xc0000005 0 ∷  -- JMP 000005
    within 6 0xc0000006 7 ∷  -- JMP 000006
    within 6 0xc1000005 0 ∷  -- JMP 000005,NZ
    within 6 0xc1000006 7 ∷  -- JMP 000006,NZ
    within 6 0xc6000005 0 ∷  -- JMP 000005,BIO
    within 6 0xc6000006 7 ∷  -- JMP 000006,BIO
    within 6 0xc07fffff 7 ∷  -- JMP 7fffff
    within 6 0xf0800005 0 ∷  -- JSR 000005
    within 6 0xf0800006 7 ∷  -- JSR 000006
    within 64 0xf1020040 7 ∷  -- JSRWP 0040,020
    within 65 0xf1020040 0 ∷
    within 6 0xc4000006 6 ∷  -- "7, in its old place": condition 8 is 6
    within 6 0xc6800006 5 ∷  -- condition 13 is 5
    -- K3: "the byte with 128 flipped, less 128, at the word width"; Z and N are the byte's
    result (computes 0x98020603 0xffffffff 0x80ff7f00 0 1 0) ∷  -- BLDS0 %02,%03,S
    result (computes 0x98820603 0xffffffff 0x80ff7f00 0x7f 0 0) ∷  -- BLDS1 %02,%03,S
    result (computes 0x99020603 0xffffffff 0x80ff7f00 0xffffffff 0 1) ∷  -- BLDS2 %02,%03,S
    result (computes 0x99820603 0xffffffff 0x80ff7f00 0xffffff80 0 1) ∷  -- BLDS3 %02,%03,S
    -- K4: "MOVX before that is a stop. The record says loaded or not, and RX and RY are 0 until loaded; 01's MOVX case has them loaded."
    points 0x98051800 0 0 0 0x1f 27 ∷  -- MOVX @%05,@%X+,S
    points 0x98051800 0 0 0 0x20 27 ∷  -- "27, after 9 and before 10": before 13
    points 0x98051800 1 0 0 0x20 13 ∷  -- "MOVX address 20 with DM_SIZE 20: 13; 1F passes."
    points 0x98051800 1 0 0 0x1f 0 ∷
    points 0x98001c05 0 0 0 0x1f 27 ∷  -- MOVX @%X+,@%05,S
    points 0x98001c05 0 0 0 0x20 27 ∷
    points 0x98001c05 1 0 0 0x20 13 ∷
    points 0x98001c05 1 0 0 0x1f 0 ∷
    points 0x98051800 0 1 0 0x1f 3 ∷  -- not loaded, with RX 1, and with RY 1: the record is out of its ranges
    points 0x98051800 0 0 1 0x1f 3 ∷
    points 0x98051800 1 1 1 0x1f 0 ∷
    points 0x98051800 2 0 0 0x1f 3 ∷  -- the mark is 0 or 1
    points 0xa1030005 0 0 0 0x1f 0 ∷  -- MOV %03,@%05 asks for no LDYX
    loads 0x98041402 2 4 ∷  -- LDYX %04,%02,S
    loads 0x9c041402 2 4 ∷  -- LDYX %04,%02: bit 26 is of the flags alone
    []

abbrev pub all_so : List Reading → Bool
all_so [] = true
all_so (x ∷ xs) = so x && all_so xs

-- the one claim
abbrev pub RightReadings : Type 0
RightReadings = T (all_so readings)
