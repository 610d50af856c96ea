-- `machine::Stop::numbered` meets its contract. Assumes nothing.
use native.Mathlib.Omega.{arith}
use mathlib.Core.Logic.{inl, inr}
use Rattle.machine.proofs.Stop.numbered.Goals as goal

pub returns-in_default : goal.returns-in_default
returns-in_default c (inl h) = omega arith
returns-in_default c (inr h) = omega arith
