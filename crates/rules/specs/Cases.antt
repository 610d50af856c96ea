-- Cases of the check, computed: a certificate that passes, and copies of it and of its program, each changed in one or two places, with what the check
-- answers. One for each clause of each rule.
use Rattle.std.specs.Prelude.{ℕ, Bool, true, false, ◌&&◌, List, [], ◌∷◌, ◌++◌, T, eqb, ◌≡◌, length, replicate, set}
use Rattle.laws.specs.Lists.{column}
use Rattle.laws.specs.Test.{test}
use Rattle.words.specs.declared.Config.{Config}
use Rattle.words.specs.Kinds.{ret, ret_constant, jump, branch, Z, call, move}
use Rattle.words.specs.Facts.{facts_for}
use Rattle.state.specs.State.{env}
use Rattle.state.specs.Calls.{Call, step, run, Done}
use Rattle.rules.specs.Successors.{successor, successors}
use Rattle.rules.specs.Calls.{trace}
use Rattle.rules.specs.Demand.{at_reset}
use Rattle.rules.specs.Check.{Answer, passed, refused, broken, check_of}
use Rattle.rules.specs.Claims.{aims_outside}

-- every option, and a PC_STACK
abbrev pub small : ℕ → Config
small stack =
    record {
      imwidth = 32;
      imsize = 9;
      regwidth = 32;
      regsize = 16;
      rmsize = 64;
      pcstack = stack;
      dmsize = 32;
      dmpipe = 0;
      alulevel = 2;
      alumult = 1;
      aluspr = 1;
      iopif = 1;
      ioprmw = 1;
      yamclk = 0;
      yamsreg3 = 0;
      alu3op = 0;
      irqif = 0;
      copmsize = 0;
      yamdbg = 0;
    }

abbrev pub program : List ℕ
program =
    0xf0800005 ∷  -- 0 JSR 5
    0xb8010002 ∷  -- 1 MOVIO @%01,%02
    0xa0030004 ∷  -- 2 MOV %03,%04
    0xc0800002 ∷  -- 3 JMP 2,Z
    0xc0000004 ∷  -- 4 JMP 4
    0xf0050000 ∷  -- 5 SPR_ON
    0xa0050007 ∷  -- 6 MOV %05,%07
    0xf0040000 ∷  -- 7 SPR_OFF
    0xf0000000 ∷  -- 8 RET
    []

abbrev pub certificate : List ℕ
certificate = 1 ∷ 0 ∷ 0 ∷ 0 ∷ 0 ∷ 64 ∷ 192 ∷ 192 ∷ 64 ∷ []

-- the word w at address a, or the mark x there; a word or a mark more; another PC_STACK
pub data Change : Type 0 where
  word : ℕ → ℕ → Change
  mark : ℕ → ℕ → Change
  word_more : Change
  mark_more : Change
  pc_stack : ℕ → Change

abbrev pub config_by : List Change → Config
config_by [] = small 4
config_by (word a w ∷ cs) = config_by cs
config_by (mark a x ∷ cs) = config_by cs
config_by (word_more ∷ cs) = config_by cs
config_by (mark_more ∷ cs) = config_by cs
config_by (pc_stack n ∷ cs) = small n

abbrev pub program_by : List Change → List ℕ
program_by [] = program
program_by (word a w ∷ cs) = set (program_by cs) a w
program_by (mark a x ∷ cs) = program_by cs
program_by (word_more ∷ cs) = program_by cs ++ (0xf0000000 ∷ [])
program_by (mark_more ∷ cs) = program_by cs
program_by (pc_stack n ∷ cs) = program_by cs

abbrev pub certificate_by : List Change → List ℕ
certificate_by [] = certificate
certificate_by (word a w ∷ cs) = certificate_by cs
certificate_by (mark a x ∷ cs) = set (certificate_by cs) a x
certificate_by (word_more ∷ cs) = certificate_by cs
certificate_by (mark_more ∷ cs) = certificate_by cs ++ (64 ∷ [])
certificate_by (pc_stack n ∷ cs) = certificate_by cs

abbrev pub cases : List (List Change × Answer)
cases =
    ([], passed 1) ∷
    -- the configuration before the lengths, and these before the rules
    (pc_stack 65 ∷ mark_more ∷ [], refused 1) ∷
    (mark_more ∷ mark 0 255 ∷ [], refused 2) ∷
    (word_more ∷ [], refused 2) ∷
    -- 1
    (mark 0 255 ∷ [], broken 0 1) ∷
    (mark 0 65 ∷ [], broken 0 1) ∷
    (mark 0 129 ∷ [], broken 0 1) ∷
    -- 2
    (mark 0 4 ∷ [], broken 0 2) ∷
    (mark 0 3 ∷ [], passed 3) ∷
    (mark 0 2 ∷ pc_stack 1 ∷ [], broken 0 2) ∷
    (word 3 0xc0000002 ∷ mark 4 4 ∷ [], broken 4 2) ∷  -- where control never comes
    (mark 0 4 ∷ word 0 0x58000000 ∷ [], broken 0 2) ∷
    -- 3: no row; JMP @, JSR @, JSRWP, RETWP
    (word 2 0x58000000 ∷ [], broken 2 3) ∷
    (word 2 0xc8010000 ∷ [], broken 2 3) ∷
    (word 2 0xf8810000 ∷ [], broken 2 3) ∷
    (word 2 0xf1020002 ∷ [], broken 2 3) ∷
    (word 2 0xf0010000 ∷ [], broken 2 3) ∷
    -- a direct target past the end: JMP, JMP by condition, JSR; and where next is past the end too
    (word 4 0xc0000009 ∷ [], broken 4 3) ∷
    (word 3 0xc0800009 ∷ [], broken 3 3) ∷
    (word 0 0xf0800009 ∷ [], broken 0 3) ∷
    (word 8 0xc0800009 ∷ [], broken 8 3) ∷
    -- 4: next unused, target unused, next past the end
    (mark 1 255 ∷ [], broken 0 4) ∷
    (mark 5 255 ∷ [], broken 0 4) ∷
    (word 8 0xa0030004 ∷ [], broken 8 4) ∷
    (word 8 0xc0800005 ∷ [], broken 8 4) ∷
    -- 5: JSR to main, its next a subroutine, a jump and a fall out of main, RET in main
    (mark 5 0 ∷ [], broken 0 5) ∷
    (mark 1 64 ∷ [], broken 0 5) ∷
    (word 4 0xc0000005 ∷ [], broken 4 5) ∷
    (word 4 0xa0030004 ∷ [], broken 4 5) ∷
    (word 4 0xf0000000 ∷ [], broken 4 5) ∷
    (word 0 0xf0800001 ∷ mark 1 64 ∷ [], broken 0 5) ∷  -- target and next in one
    -- 6: next higher, target higher, JSR's target no lower
    (mark 1 2 ∷ [], broken 0 6) ∷
    (word 4 0xc0000000 ∷ [], broken 4 6) ∷
    (mark 0 0 ∷ [], broken 0 6) ∷
    (mark 0 0 ∷ mark 1 4 ∷ [], broken 0 6) ∷  -- and not 2 at address 1
    -- 7: SPR_ON in special mode, its successor normal, after SPR_OFF special, another register in
    -- special mode, a MOVIO, a JSR and a JMP that change the mode
    (word 6 0xf0050000 ∷ [], broken 6 7) ∷
    (mark 6 64 ∷ [], broken 5 7) ∷
    (mark 8 192 ∷ [], broken 7 7) ∷
    (word 6 0xa0050004 ∷ [], broken 6 7) ∷
    (mark 2 128 ∷ [], broken 1 7) ∷
    (mark 5 192 ∷ [], broken 0 7) ∷
    (word 8 0xc0000007 ∷ [], broken 8 7) ∷
    -- 8: a port read and an IORMW after a port write, a port read after an IORMW
    (word 2 0xb1030004 ∷ [], broken 1 8) ∷
    (word 2 0xb1038004 ∷ [], broken 1 8) ∷
    (word 1 0xb1038004 ∷ word 2 0xb1030004 ∷ [], broken 1 8) ∷
    (word 2 0xb1038084 ∷ [], broken 2 3) ∷  -- an unused bit set: it cannot be read, and is no port read
    -- an unused address may hold anything
    (word 4 0x58000000 ∷ word 3 0xc0000002 ∷ mark 4 255 ∷ [], passed 1) ∷
    -- the first address, and its lowest rule
    (word 4 0x58000000 ∷ word 2 0xb1030004 ∷ [], broken 1 8) ∷
    []

abbrev pub same_answer : Answer → Answer → Bool
same_answer x y = eqb x.number y.number && (eqb x.address y.address && (eqb x.rule y.rule && eqb x.level y.level))

abbrev pub right : List Change × Answer → Bool
right c = same_answer (check_of (config_by c.0) (program_by c.0) (certificate_by c.0)) c.1

abbrev pub all_right : List (List Change × Answer) → Bool
all_right [] = true
all_right (c ∷ cs) = right c && all_right cs

-- the one claim
abbrev pub CertificateCases : Type 0
CertificateCases = T (all_right cases)

-- "none for RET, RLD; the target for JMP always; target and next for other JMP and JSR; next
-- otherwise": at address 7, with target 3
abbrev pub SuccessorCases : Type 0
SuccessorCases =
    column (λ k. successors (facts_for k) 7 3) (ret ∷ ret_constant ∷ jump ∷ branch Z ∷ call ∷ move ∷ []) ≡
    ([] ∷
    [] ∷
    (successor 3 false ∷ []) ∷
    (successor 8 false ∷ successor 3 false ∷ []) ∷
    (successor 8 false ∷ successor 3 true ∷ []) ∷
    (successor 8 false ∷ []) ∷
    [])

-- Which words `CaughtBy3` speaks of, in an image of 9 words: with target 9 JMP, JMP by Z, JMP by BIO, JSR and JSRWP; not with target 8, nor
-- JMP @%09 and MOV with an immediate of 9.
abbrev pub TargetCases : Type 0
TargetCases =
    column (λ w. test (aims_outside (small 4) w))
    (0xc0000009 ∷ 0xc0800009 ∷ 0xc6000009 ∷ 0xf0800009 ∷ 0xf1020009 ∷ 0xc0000008 ∷ 0xf0800008 ∷ 0xf1020008 ∷ 0xc8090000 ∷ 0xa2860009 ∷ []) ≡
    (true ∷ true ∷ true ∷ true ∷ true ∷ false ∷ false ∷ false ∷ false ∷ false ∷ [])

-- A list of calls from reset on the program above, with room for one entry in the log: the number that each answers, the PC and the return stack that it
-- leaves, and how many states it passes through.
abbrev pub calls : List Call
calls = step ∷ run 1000001 ∷ run 4 ∷ step ∷ run 100 ∷ []

abbrev pub summary : Call × Done → List ℕ
summary d = d.1.number ∷ d.1.last.core.pc ∷ d.1.last.core.depth ∷ length d.1.through ∷ []

abbrev pub CallCases : Type 0
CallCases =
    column summary (trace (env (small 4) program []) calls (at_reset (replicate 64 0) (replicate 32 0) (0 ∷ []) (0 ∷ []))) ≡
    ((0 ∷ 5 ∷ 1 ∷ 2 ∷ []) ∷  -- step: JSR 5
    (16 ∷ 5 ∷ 1 ∷ 1 ∷ []) ∷  -- a run whose budget is too large
    (0 ∷ 1 ∷ 0 ∷ 5 ∷ []) ∷  -- a run of four: SPR_ON, MOV, SPR_OFF, RET
    (0 ∷ 2 ∷ 0 ∷ 2 ∷ []) ∷  -- step: MOVIO, which fills the log
    (0 ∷ 4 ∷ 0 ∷ 101 ∷ []) ∷  -- a run that comes to JMP 4
    [])
