-- Document 01's starred cases, in its order: "hex; W = 32 unless said". Each is a whole step, of a word that the manual's tables (5.17.4, 5.17.9) spell,
-- so that decoding, operands, flags and what stays are in the claim.
use Rattle.std.specs.Prelude.{ℕ, ◌-◌, ◌*◌, Bool, true, false, ◌&&◌, List, [], ◌∷◌, T, eqb, set, replicate}
use Rattle.words.specs.declared.Config.{Config}
use Rattle.words.specs.Words.{read_of}
use Rattle.state.specs.declared.Core.{Core}
use Rattle.state.specs.State.{State, env, state}
use Rattle.state.specs.Step.{Outcome, step_of}

-- a lawful core: REG_SIZE, IM_SIZE, W, RM_SIZE, ALU_LEVEL and DM_SIZE as given, every other option on
abbrev pub banks : ℕ → ℕ → ℕ → ℕ → ℕ → ℕ → Config
banks bank-size image-size width registers level data-size =
    record {
      imwidth = 32;
      imsize = image-size;
      regwidth = width;
      regsize = bank-size;
      rmsize = registers;
      pcstack = 8;
      dmsize = data-size;
      dmpipe = 0;
      alulevel = level;
      alumult = 1;
      aluspr = 1;
      iopif = 1;
      ioprmw = 1;
      yamclk = 0;
      yamsreg3 = 0;
      alu3op = 0;
      irqif = 0;
      copmsize = 0;
      yamdbg = 0;
    }

-- with 16 registers a bank
abbrev pub sized : ℕ → ℕ → ℕ → ℕ → ℕ → Config
sized = banks 16

-- with an image that holds every target of a case; K2: "the JSRWP case has an IM_SIZE above 40 hex"
abbrev pub configured : ℕ → ℕ → ℕ → ℕ → Config
configured = sized 128

-- every option that a lawful configuration can have, and what is left of them at W = 8
abbrev pub full : Config
full = configured 32 64 2 32

abbrev pub narrow : Config
narrow = configured 8 16 0 32

-- the core of a case: PC, WP, N, Z and SPR7 as given, the rest as at reset ("mask F")
abbrev pub core_at : ℕ → ℕ → ℕ → ℕ → ℕ → Core
core_at pc wp n z spr7 =
    record {
      pc = pc;
      wp = wp;
      rx = 0;
      ry = 0;
      loaded = 0;
      n = n;
      z = z;
      spr7 = spr7;
      depth = 0;
      imask = 0xf;
      saved = 0xf;
      mode = 0;
      posted = 0;
      port = 0;
      taken = 0;
      logged = 0;
    }

-- a core and its register memory; stack and data memory zero, no log
abbrev pub around : Config → Core → List ℕ → State
around c m registers = state m (replicate 63 0) registers (replicate c.dmsize 0) [] []

-- register memory with x in cell i, zeros elsewhere
abbrev pub holding : Config → ℕ → ℕ → List ℕ
holding c i x = set (replicate c.rmsize 0) i x

-- PC, N, Z, SPR7, and what %02 and %03 hold
abbrev pub pair : Config → ℕ → ℕ → ℕ → ℕ → ℕ → ℕ → State
pair c pc n z spr7 d s = around c (core_at pc 0 n z spr7) (set (holding c 2 d) 3 s)

-- one step with word w at PC, zeros elsewhere in the image, no input
abbrev pub stepped : Config → ℕ → State → Outcome
stepped c w s = step_of (env c (set (replicate c.imsize 0) s.core.pc w) []) s

-- two lists are the same
abbrev pub equal : List ℕ → List ℕ → Bool
equal [] [] = true
equal [] (y ∷ m) = false
equal (x ∷ l) [] = false
equal (x ∷ l) (y ∷ m) = eqb x y && equal l m

-- every part of a core
abbrev pub numbers : Core → List ℕ
numbers m =
    m.pc ∷ m.wp ∷ m.rx ∷ m.ry ∷ m.loaded ∷ m.n ∷ m.z ∷ m.spr7 ∷ m.depth ∷ m.imask ∷ m.saved ∷ m.mode ∷ m.posted ∷ m.port ∷ m.taken ∷ m.logged ∷ []

-- the outcome is a pass in two cycles that leaves t: the same in every part
abbrev pub leaves : Outcome → State → Bool
leaves o t =
    let s = o.state in
    equal (o.number ∷ o.cycles ∷ []) (0 ∷ 2 ∷ []) &&
    (equal (numbers s.core) (numbers t.core) &&
    (equal s.stack t.stack &&
    (equal s.registers t.registers &&
    (equal s.memory t.memory && (equal s.addresses t.addresses && equal s.values t.values)))))

pub data Case : Type 0 where
  answers : Config → ℕ → ℕ → Case  -- a word in a configuration, and the number that reading it answers, and its step from reset
  computes : ℕ → ℕ → ℕ → ℕ → ℕ → ℕ → Case  -- a word, %02 and %03 before it; %02, Z and N after it
  multiplies : ℕ → ℕ → ℕ → ℕ → ℕ → Case  -- at W = 8 a word, %02 and %03 before it; %02 and SPR7 after it
  enters : ℕ → ℕ → ℕ → ℕ → ℕ → ℕ → ℕ → Case  -- a word, PC, N and Z; the new bank's unit, PC and %00

abbrev pub right : Case → Bool
right (answers c w n) =
    eqb (read_of c w).number n && eqb (stepped c w (pair c 0 0 0 0 0 0)).number n
-- each flag is before the step what it is not after it
right (computes w d s v z n) = leaves (stepped full w (pair full 0 (1 - n) (1 - z) 0 d s)) (pair full 1 n z 0 v s)
-- both flags stay
right (multiplies w a b v high) = leaves (stepped narrow w (pair narrow 0 1 1 0 a b)) (pair narrow 1 1 1 high v b)
right (enters w pc n z unit target context) =
    leaves (stepped full w (around full (core_at pc 0 n z 0) (holding full 0 0)))
    (around full (core_at target (16 * unit) n z 0) (holding full (16 * unit) context))

-- where the document names one flag, the other is given too; where an operation takes %03 alone, %02 is FFFFFFFF before it
abbrev pub cases : List Case
cases =
    computes 0x40020003 0xffffffff 1 0 1 1 ∷  -- ADD %02,%03,S: "ADD FFFFFFFF+1: 0, Z 1, N 1."
    computes 0x30020003 0 1 0xffffffff 0 1 ∷  -- SUB %02,%03,S: "SUB 0−1: FFFFFFFF, N 1."
    computes 0x38020003 0x80000000 1 0x7fffffff 0 1 ∷  -- SUBS %02,%03,S: "SUBS 80000000−1: 7FFFFFFF, N 1;"
    computes 0x30020003 0x80000000 1 0x7fffffff 0 0 ∷  -- SUB %02,%03,S: "SUB the same: N 0."
    computes 0x81020001 1 0 0 0 0 ∷  -- SHR %02,#1,S: "SHR #1 of 1: 0, Z 0."
    computes 0x83020001 1 0 2 1 0 ∷  -- SHL %02,#1,S: "SHL #1 of 1: 2, Z 1."
    computes 0x91820003 0xffffffff 0x0000ffff 16 1 0 ∷  -- CLZ %02,%03,S: "CLZ 0000FFFF: 16 decimal, Z 1;"
    computes 0x91820003 0xffffffff 0x00010000 15 0 0 ∷  -- CLZ %02,%03,S: "00010000: 15 decimal, Z 0."
    computes 0x90820003 0xffffffff 0x80000000 0x80000000 0 1 ∷  -- ABS %02,%03,S: "ABS 80000000: itself, N 1."
    multiplies 0x70020003 0xc8 0xc8 0x40 0x9c ∷  -- MUL %02,%03,S: "MUL C8·C8, W = 8: 40, SPR7 9C."
    answers full 0x58000000 5 ∷  -- "Word 58000000: 5."
    answers full 0x00000080 7 ∷  -- "00000080: 7."
    enters 0xf1020040 0x12 1 0 2 0x40 0x002f0013 ∷  -- JSRWP 0040,020: "JSRWP F1020040 at 12, WP 0, N 1, Z 0, mask F: context 002F0013."
    []

abbrev pub all_right : List Case → Bool
all_right [] = true
all_right (x ∷ xs) = right x && all_right xs

-- the one claim
abbrev pub StarredCases : Type 0
StarredCases = T (all_right cases)
