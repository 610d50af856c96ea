-- The cells that a run keeps of the words it has visited: pairs of an address and the cell of its word. Nothing here is to be believed.
use Rattle.std.specs.Prelude.{ℕ, ◌+◌, ◌*◌, ◌<◌, ◌≤◌, ◌≡◌, List, ◌⊎◌, eqb, length, get_or}
use Rattle.std.specs.Int.Bits.{bit_and}
use Rattle.laws.specs.Choice.{pick}
use Rattle.words.specs.declared.Config.{Config}
use Rattle.cells.specs.Cell.{cell_of}

-- the cell kept for address pc, 0 where there is none; an address stands at the place of its low bits
unfoldable pub cell_at : ℕ → List ℕ → ℕ → ℕ
cell_at mask cells pc =
    let i = bit_and pc mask in
    pick (eqb (get_or cells (2 * i) 0) pc) (get_or cells (2 * i + 1) 0) 0

-- x is no cell yet, or that of the word at address a
abbrev pub Kept : Config → List ℕ → ℕ → ℕ → Type 0
Kept c image a x = (x ≡ 0) ⊎ ((a < c.imsize) × (get_or image a 0 < 0x100000000) × (x ≡ cell_of c (get_or image a 0)))

-- the pairs up to place `mask` are there, and each cell is that of its address or none
pub record Cached (c : Config) (image : List ℕ) (mask : ℕ) (cells : List ℕ) : Type 0 where
  pub room : 2 * mask + 1 < length cells
  pub each : (i : ℕ) → i ≤ mask → Kept c image (get_or cells (2 * i) 0) (get_or cells (2 * i + 1) 0)
