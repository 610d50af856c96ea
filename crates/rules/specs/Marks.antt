-- A certificate (document 01's sheet) is a list of bytes, one for each address: "255 unused; else level in bits 5-0, bit 6 subroutine, bit 7
-- special-register mode".
use Rattle.std.specs.Prelude.{ℕ, ◌/◌, ◌%◌, Bool, not, List, eqb, get_or}

-- the mark of address a; past the end: unused
abbrev pub mark_at : List ℕ → ℕ → ℕ
mark_at certificate a = get_or certificate a 255

abbrev pub used : ℕ → Bool
used x = not (eqb x 255)

abbrev pub level_of : ℕ → ℕ
level_of x = x % 64

-- 0 main, 1 subroutine
abbrev pub sub_of : ℕ → ℕ
sub_of x = x / 64 % 2

-- 0 normal, 1 special-register mode
abbrev pub mode_of : ℕ → ℕ
mode_of x = x / 128 % 2
