-- Bytes and lines of a text, as code reads them. Nothing here is to be believed: proofs/bytes/Laws.antt ties it to syntax's Lines.
use Rattle.std.specs.Prelude.{◌≡◌, Bool, ◌&&◌, List, [], ◌∷◌, ℕ, zero, suc, ◌+◌, ◌-◌, ◌*◌, ◌<◌, ◌≤◌, eqb, ltb, leb, length, get_or, drop}
use Rattle.std.proofs.Math.Seq.{slice}
use Rattle.laws.specs.Choice.{pick}
use Rattle.syntax.specs.Lines.{lines_of}

-- byte j from the end, counted from 1; before the start 0
unfoldable pub byte_before : List ℕ → ℕ → ℕ
byte_before l j = pick (leb j (length l)) (get_or l (length l - j) 0) 0

-- a small letter beyond f
unfoldable pub is_beyond : ℕ → Bool
is_beyond b = ltb 102 b && leb b 122

-- which of the n bytes from s on are newlines: bit j says it of byte j
abbrev pub newlines_in : ℕ → List ℕ → ℕ → ℕ
newlines_in zero t s = 0
newlines_in (suc n) t s = 2 * newlines_in n t (suc s) + pick (eqb (get_or t s 0) 10) 1 0

-- no newline stands from s up to r
pub record Skipped (t : List ℕ) (s r : ℕ) : Type 0 where
  pub forward : s ≤ r
  pub inside : r ≤ length t
  pub none : (k : ℕ) → s ≤ k → k < r → get_or t k 0 ≡ 10 → ⊥

-- and there it ends: at a newline, or at the text's end
pub record Ended (t : List ℕ) (s r : ℕ) : Type 0 where
  pub skipped : Skipped t s r
  pub at_end : r < length t → get_or t r 0 ≡ 10

-- the lines from place s on; past the end there is none
unfoldable pub lines_from : List ℕ → ℕ → List (List ℕ)
lines_from text s = pick (leb s (length text)) (lines_of (drop s text)) []

-- the line that starts at s ends at r
pub record LineEnd (text : List ℕ) (s r : ℕ) : Type 0 where
  pub forward : s ≤ r
  pub inside : r ≤ length text
  pub parted : lines_from text s ≡ slice s r text ∷ lines_from text (suc r)
