-- Document 01's number of what refuses a step before it.
use Rattle.std.specs.Prelude.{ℕ, Result, Ok, Err}
use Rattle.guards.specs.declared.Refused.{Refused}
use Rattle.guards.specs.declared.Refused.TheVariants.{Unlawful, WrongLength, OutOfRange}

abbrev pub refused_number : Refused → ℕ
refused_number Unlawful = 1
refused_number WrongLength = 2
refused_number OutOfRange = 3

-- 0 where nothing refuses it
abbrev pub number_of : {A : Type 0} → Result A Refused → ℕ
number_of (Ok _) = 0
number_of (Err r) = refused_number r
