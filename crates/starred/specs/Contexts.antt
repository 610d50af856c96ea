-- Context switches, computed: document 02, K6. Three programs, the states that they go through, and which of their calls and returns the claim speaks of.
use Rattle.std.specs.Prelude.{ℕ, zero, suc, ◌-◌, ◌≡◌, List, [], ◌∷◌, ◌++◌, length, replicate}
use Rattle.laws.specs.Lists.{column}
use Rattle.words.specs.declared.Config.{Config}
use Rattle.state.specs.State.{Env, State, env}
use Rattle.state.specs.Cores.{◌but◌≔◌, IMASK}
use Rattle.state.specs.ComesBack.{JSRWP, RETWP, CarriesOut, after_step, register_zero, Switch, Restored}
use Rattle.starred.specs.Cases.{banks, core_at, around}

-- 32 registers a bank and 128 in all: a bank starts at each multiple of 16, and has its upper half in common with the next one
abbrev pub halves : Config
halves = banks 32 16 32 128 2 32

-- an image of 16 words that starts with these, and no input
abbrev pub running : List ℕ → Env
running words = env halves (words ++ replicate (16 - length words) 0) []

-- the start: address 0, bank 0, both flags 0, IMask 5, registers zero
abbrev pub start : State
start = around halves (core_at 0 0 0 0 0 but IMASK ≔ 5) (replicate halves.rmsize 0)

-- the state after k steps from the start, and the first k states
abbrev pub later : Env → ℕ → State → State
later e zero s = s
later e (suc k) s = later e k (after_step e s)

abbrev pub at : Env → ℕ → State
at e k = later e k start

abbrev pub states : Env → ℕ → State → List State
states e zero s = []
states e (suc k) s = s ∷ states e k (after_step e s)

-- PC, WP, N, Z, IMask and register zero of the active bank
abbrev pub shown : State → List ℕ
shown s = let m = s.core in m.pc ∷ m.wp ∷ m.n ∷ m.z ∷ m.imask ∷ register_zero m.wp s ∷ []

-- the program goes through states that show so
abbrev pub Goes : Env → List (List ℕ) → Type 0
Goes e table = column shown (states e (length table) start) ≡ table

-- Nested calls in banks that overlap: %10 of the bank at 10 is register zero of the one at 20. Both come back.
abbrev pub nested : Env
nested =
    running
    (0xa2810005 ∷  -- 0 MOV %01,#0005
    0x22810006 ∷  -- 1 CMP %01,#0006,S
    0xf1010006 ∷  -- 2 JSRWP 0006,010
    0xc0000003 ∷  -- 3 JMP 000003
    0 ∷
    0 ∷
    0x20010001 ∷  -- 6 CMP %01,%01,S
    0xf102000a ∷  -- 7 JSRWP 000a,020
    0xa0020010 ∷  -- 8 MOV %02,%10
    0xf0010000 ∷  -- 9 RETWP
    0x32810001 ∷  -- a SUB %01,#0001,S
    0xf0010000 ∷  -- b RETWP
    [])

abbrev pub nested_states : List (List ℕ)
nested_states =
    (0 ∷ 0 ∷ 0 ∷ 0 ∷ 5 ∷ 0 ∷ []) ∷  -- MOV
    (1 ∷ 0 ∷ 0 ∷ 0 ∷ 5 ∷ 0 ∷ []) ∷  -- CMP, 5 with 6
    (2 ∷ 0 ∷ 1 ∷ 0 ∷ 5 ∷ 0 ∷ []) ∷  -- JSRWP, the outer call
    (6 ∷ 16 ∷ 1 ∷ 0 ∷ 5 ∷ 0x00250003 ∷ []) ∷  -- CMP, 0 with 0
    (7 ∷ 16 ∷ 0 ∷ 1 ∷ 5 ∷ 0x00250003 ∷ []) ∷  -- JSRWP, the inner call
    (10 ∷ 32 ∷ 0 ∷ 1 ∷ 5 ∷ 0x04150008 ∷ []) ∷  -- SUB, 0 less 1
    (11 ∷ 32 ∷ 1 ∷ 0 ∷ 5 ∷ 0x04150008 ∷ []) ∷  -- RETWP, the inner return
    (8 ∷ 16 ∷ 0 ∷ 1 ∷ 5 ∷ 0x00250003 ∷ []) ∷  -- MOV
    (9 ∷ 16 ∷ 0 ∷ 1 ∷ 5 ∷ 0x00250003 ∷ []) ∷  -- RETWP, the outer return
    (3 ∷ 0 ∷ 1 ∷ 0 ∷ 5 ∷ 0 ∷ []) ∷
    []

-- A routine overwrites register zero: the fault that K6 speaks of. The return goes where the new word says, to the routine's own bank and with another mask;
-- a model that keeps the workspace pointer on a private stack has WP 0 there.
abbrev pub overwritten : Env
overwritten =
    running
    (0x22810001 ∷  -- 0 CMP %01,#0001,S
    0xf1010004 ∷  -- 1 JSRWP 0004,010
    0xc0000002 ∷  -- 2 JMP 000002
    0 ∷
    0xa380040a ∷  -- 4 MOV %00, 040a times 65,536
    0x46800002 ∷  -- 5 ADD %00,#0002
    0xf0010000 ∷  -- 6 RETWP
    [])

abbrev pub overwritten_states : List (List ℕ)
overwritten_states =
    (0 ∷ 0 ∷ 0 ∷ 0 ∷ 5 ∷ 0 ∷ []) ∷  -- CMP, 0 with 1
    (1 ∷ 0 ∷ 1 ∷ 0 ∷ 5 ∷ 0 ∷ []) ∷  -- JSRWP
    (4 ∷ 16 ∷ 1 ∷ 0 ∷ 5 ∷ 0x00250002 ∷ []) ∷  -- MOV
    (5 ∷ 16 ∷ 1 ∷ 0 ∷ 5 ∷ 0x040a0000 ∷ []) ∷  -- ADD
    (6 ∷ 16 ∷ 1 ∷ 0 ∷ 5 ∷ 0x040a0002 ∷ []) ∷  -- RETWP
    (2 ∷ 16 ∷ 0 ∷ 0 ∷ 10 ∷ 0x040a0002 ∷ []) ∷
    []

-- A RETWP in another bank than the one that the first call set: it comes back from the second call, and of the first the claim says nothing.
abbrev pub elsewhere : Env
elsewhere =
    running
    (0xf1010004 ∷  -- 0 JSRWP 0004,010
    0xc0000001 ∷  -- 1 JMP 000001
    0 ∷
    0 ∷
    0xf1020006 ∷  -- 4 JSRWP 0006,020
    0xc0000005 ∷  -- 5 JMP 000005
    0xf0010000 ∷  -- 6 RETWP
    [])

abbrev pub elsewhere_states : List (List ℕ)
elsewhere_states =
    (0 ∷ 0 ∷ 0 ∷ 0 ∷ 5 ∷ 0 ∷ []) ∷  -- JSRWP
    (4 ∷ 16 ∷ 0 ∷ 0 ∷ 5 ∷ 0x00050001 ∷ []) ∷  -- JSRWP
    (6 ∷ 32 ∷ 0 ∷ 0 ∷ 5 ∷ 0x04050005 ∷ []) ∷  -- RETWP
    (5 ∷ 16 ∷ 0 ∷ 0 ∷ 5 ∷ 0x00050001 ∷ []) ∷
    []

-- The claim's premise is met by both calls of the first program, and by the second call of the third. Of the second program's call, and of the third's
-- first, it is not met, though a RETWP is carried out: and they do not come back.
pub record Stray (e : Env) (call return : ℕ) : Type 0 where
  pub calls : CarriesOut e JSRWP (at e call)
  pub returns : CarriesOut e RETWP (at e return)
  pub unmet : Switch e (at e call) (at e return) → ⊥
  pub lost : Restored (at e call) (at e (suc return)) → ⊥

pub record ContextCases : Type 0 where
  pub nested_goes : Goes nested nested_states
  pub nested_outer : Switch nested (at nested 2) (at nested 8)
  pub nested_inner : Switch nested (at nested 4) (at nested 6)
  pub overwritten_goes : Goes overwritten overwritten_states
  pub overwritten_stray : Stray overwritten 1 4
  pub elsewhere_goes : Goes elsewhere elsewhere_states
  pub elsewhere_second : Switch elsewhere (at elsewhere 1) (at elsewhere 2)
  pub elsewhere_stray : Stray elsewhere 0 2
