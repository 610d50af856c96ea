-- What a call does not change, and what it does.
use Rattle.std.specs.Prelude.{ℕ, ◌-◌, ◌^◌, List, eqb, replicate}
use Rattle.laws.specs.Choice.{pick}
use Rattle.words.specs.declared.Config.{Config}
use Rattle.arith.specs.Width.{bits}
use Rattle.state.specs.declared.Core.{Core}
use Rattle.state.specs.declared.Machine.{Machine}

-- configuration, image, and the inputs at the ports (document 01's readings)
pub record Env : Type 0 where
  pub config : Config
  pub image : List ℕ
  pub inputs : List ℕ

abbrev pub env : Config → List ℕ → List ℕ → Env
env c image inputs = record { config = c; image = image; inputs = inputs }

-- the machine record (core and return stack), register memory, data memory, and the output log's addresses and values
pub record State : Type 0 where
  pub core : Core
  pub stack : List ℕ
  pub registers : List ℕ
  pub memory : List ℕ
  pub addresses : List ℕ
  pub values : List ℕ

abbrev pub state : Core → List ℕ → List ℕ → List ℕ → List ℕ → List ℕ → State
state core stack registers memory addresses values =
    record {
      core = core;
      stack = stack;
      registers = registers;
      memory = memory;
      addresses = addresses;
      values = values;
    }

-- 2^W
abbrev pub top : Config → ℕ
top c = 2 ^ bits c.regwidth

-- "The stack holds 1 address if PC_STACK is 1, else PC_STACK−1."
unfoldable pub stack_limit : ℕ → ℕ
stack_limit n = pick (eqb n 1) 1 (n - 1)

-- "Reset: PC, WP, RX, RY, flags, SPR7, stack, positions 0; both masks 15; normal mode; no posted write." No LDYX has run since (document 02, K4).
abbrev pub reset_core : Core
reset_core =
    record {
      pc = 0;
      wp = 0;
      rx = 0;
      ry = 0;
      loaded = 0;
      n = 0;
      z = 0;
      spr7 = 0;
      depth = 0;
      imask = 15;
      saved = 15;
      mode = 0;
      posted = 0;
      port = 0;
      taken = 0;
      logged = 0;
    }

abbrev pub reset_machine : Machine
reset_machine = record { core = reset_core; stack = replicate 63 0 }
