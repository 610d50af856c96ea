-- A state that 1, 2 and 3 let pass, in facts with names. It says what `Valid` says (proofs/Ranges.antt, `good` and `valid`); contracts inside machine and
-- proofs go by it.
use Rattle.std.specs.Prelude.{ℕ, ◌+◌, ◌%◌, ◌<◌, ◌≤◌, ◌≡◌, length, drop}
use Rattle.laws.specs.Test.{Holds, Below}
use Rattle.words.specs.declared.Config.{Config}
use Rattle.words.specs.Configs.{lawful}
use Rattle.state.specs.declared.Core.{Core}
use Rattle.state.specs.State.{Env, State, top, stack_limit}

-- Of a core in its ranges, a field for each of the small changes of specs/Cores.antt

pub record InBank (c : Config) (wp : ℕ) : Type 0 where
  pub whole : wp % 16 ≡ 0
  pub inside : wp + c.regsize ≤ c.rmsize

pub record Indices (c : Config) (loaded rx ry : ℕ) : Type 0 where
  pub x : rx < c.regsize
  pub y : ry < c.regsize
  pub mark : loaded ≤ 1
  pub none : loaded ≡ 0 → (rx ≡ 0) × (ry ≡ 0)

pub record Flags (n z : ℕ) : Type 0 where
  pub negative : n ≤ 1
  pub zero : z ≤ 1

pub record Masks (imask saved mode : ℕ) : Type 0 where
  pub now : imask ≤ 15
  pub kept : saved ≤ 15
  pub special : mode ≤ 1

pub record High (c : Config) (spr7 : ℕ) : Type 0 where
  pub word : spr7 < top c
  pub none : c.regwidth ≡ 32 → spr7 ≡ 0

pub record Posted (c : Config) (posted port : ℕ) : Type 0 where
  pub mark : posted ≤ 1
  pub word : port < top c
  pub none : posted ≡ 0 → port ≡ 0

-- under configuration c, with so many inputs, and so much room in the log
pub record Ranged (c : Config) (inputs room : ℕ) (m : Core) : Type 0 where
  pub pc : m.pc < 0x800000
  pub bank : InBank c m.wp
  pub indices : Indices c m.loaded m.rx m.ry
  pub flags : Flags m.n m.z
  pub high : High c m.spr7
  pub depth : m.depth ≤ stack_limit c.pcstack
  pub masks : Masks m.imask m.saved m.mode
  pub posted : Posted c m.posted m.port
  pub taken : m.taken ≤ inputs
  pub logged : m.logged ≤ room

-- Of a valid state

pub record Good (e : Env) (s : State) : Type 0 where
  pub lawful : Holds (lawful e.config)
  pub image : length e.image ≡ e.config.imsize
  pub registers : length s.registers ≡ e.config.rmsize
  pub memory : length s.memory ≡ e.config.dmsize
  pub log : length s.addresses ≡ length s.values
  pub core : Ranged e.config (length e.inputs) (length s.addresses) s.core
  pub addresses : Below (e.config.imsize + 1) s.stack
  pub zeros : Below 1 (drop s.core.depth s.stack)
  pub cells : Below (top e.config) s.registers
  pub words : Below (top e.config) s.memory
