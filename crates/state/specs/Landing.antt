-- The writes of a change fall on cells that are there: what the code that carries it out needs to know.
use Rattle.std.specs.Prelude.{ℕ, ◌<◌, Option, Some, None}
use Rattle.state.specs.declared.Write.{Write}
use Rattle.state.specs.declared.Change.{Change}

-- the cell that is written, if any, is one of n
abbrev pub Inside : ℕ → Option Write → Type 0
Inside n None = Unit {0}
Inside n (Some w) = w.at < n

-- every write of a change falls on a cell: of the registers, the data memory, the return stack, the log
pub record Landing (registers memory room : ℕ) (x : Change) : Type 0 where
  pub reg : Inside registers x.reg
  pub dm : Inside memory x.dm
  pub stack : Inside 63 x.stack
  pub logat : Inside room x.logat
  pub logval : Inside room x.logval
