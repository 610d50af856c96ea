-- A change whose core is in its ranges and whose writes are small leaves a good state good.
-- Assumes nothing.
use Prim.Native.Nat.{ℕ, ◌+◌, ◌<◌}
use mathlib.Core.Path.{◌≡◌, refl}
use mathlib.Core.List.{List}
use lib.ListN.{length, drop, length-set}
use Rattle.std.specs.Prelude.{Option, Some, None}
use Rattle.laws.specs.Test.{Below}
use Rattle.laws.specs.Cells.{below_set}
use Rattle.state.specs.declared.Write.{Write}
use Rattle.state.specs.declared.Change.{Change}
use Rattle.state.specs.State.{Env, State, top}
use Rattle.state.specs.Step.{put_of, applied}
use Rattle.state.specs.Good.{Ranged, Good}
use Rattle.state.specs.Landing.{Landing}

-- what is written, if anything, is below b
abbrev pub Small : ℕ → Option Write → Type 0
Small b None = Unit {0}
Small b (Some w) = w.value < b

pub record Sound (e : Env) (s : State) (x : Change) : Type 0 where
  pub core : Ranged e.config (length e.inputs) (length s.addresses) x.core
  pub reg : Small (top e.config) x.reg
  pub dm : Small (top e.config) x.dm
  pub stack : Small (e.config.imsize + 1) x.stack
  pub landing : Landing e.config.rmsize e.config.dmsize (length s.addresses) x
  pub zeros : Below 1 (drop x.core.depth (put_of x.stack s.stack))

pub put_length : (w : Option Write) (xs : List ℕ) → length (put_of w xs) ≡ length xs
unfolding put_of
put_length None xs = refl
put_length (Some w) xs = length-set xs w.at w.value

pub put_below : (b : ℕ) (w : Option Write) (xs : List ℕ) → Small b w → Below b xs → Below b (put_of w xs)
unfolding put_of
put_below b None xs q h = h
put_below b (Some w) xs q h = below_set b xs w.at w.value q h

pub applied_good : (e : Env) (s : State) (x : Change) → Good e s → Sound e s x → Good e (applied x s)
unfolding applied
applied_good e s x g h =
    record {
      lawful = g.lawful;
      image = g.image;
      registers = rw put_length g.registers;
      memory = rw put_length g.memory;
      log = simp put_length g.log;
      core = rw put_length h.core;
      addresses = put_below (e.config.imsize + 1) x.stack s.stack h.stack g.addresses;
      zeros = h.zeros;
      cells = put_below (top e.config) x.reg s.registers h.reg g.cells;
      words = put_below (top e.config) x.dm s.memory h.dm g.words;
    }
