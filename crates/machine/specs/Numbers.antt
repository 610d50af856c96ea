-- The numbers of document 01 for what stops a step or ends a run.
use Rattle.std.specs.Prelude.{ℕ, ◌≤◌, ◌≡◌, ◌⊎◌, Option, Some, None}
use Rattle.machine.specs.declared.Stop.{Stop}
use Rattle.machine.specs.declared.Stop.TheVariants.{Unlawful, WrongLength, OutOfRange, PastImage, NoRow, Unavailable, PartTooLarge, SpecialMode, ReadAfterWrite, CallsFull, CallsEmpty, BankOutside, AddressOutside, NoInput, LogFull, BudgetTooLarge, IndexNotLoaded}

abbrev pub stop_number : Stop → ℕ
stop_number Unlawful = 1
stop_number WrongLength = 2
stop_number OutOfRange = 3
stop_number PastImage = 4
stop_number NoRow = 5
stop_number Unavailable = 6
stop_number PartTooLarge = 7
stop_number SpecialMode = 8
stop_number ReadAfterWrite = 9
stop_number CallsFull = 10
stop_number CallsEmpty = 11
stop_number BankOutside = 12
stop_number AddressOutside = 13
stop_number NoInput = 14
stop_number LogFull = 15
stop_number BudgetTooLarge = 16
stop_number IndexNotLoaded = 27

-- 0 where nothing stopped
abbrev pub number_of : Option Stop → ℕ
number_of None = 0
number_of (Some x) = stop_number x

-- what a step or a run can be stopped by, or 0
abbrev pub Numbered : ℕ → Type 0
Numbered n = (n ≤ 16) ⊎ (n ≡ 27)
