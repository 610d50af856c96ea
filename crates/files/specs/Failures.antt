-- What a failure says of what was read before it. Assumes nothing.
use Rattle.std.specs.Prelude.{ℕ}
use Rattle.files.specs.declared.Failure.{Failure}
use Rattle.files.specs.declared.Failure.TheVariants.{Io, Read, Name, Room, Usage}

-- how many bytes were read before the read that failed; 0 where none failed
abbrev pub bytes_before : Failure → ℕ
bytes_before (Io name why) = 0
bytes_before (Read name n why) = n
bytes_before Name = 0
bytes_before Room = 0
bytes_before (Usage text) = 0
