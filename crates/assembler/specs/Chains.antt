-- Labels as numbers, and the table of those that a text defines, as code holds them. Nothing here is to be believed: proofs/labels/Laws.antt ties it to syntax's
-- Labels.
use Rattle.std.specs.Prelude.{◌≡◌, Bool, true, ◌&&◌, List, [], ◌∷◌, ℕ, zero, suc, ◌+◌, ◌*◌, ◌/◌, ◌%◌, ◌<◌, T, eqb, ltb, length, get_or, Option, Some, None}
use Rattle.laws.specs.Choice.{pick}
use Rattle.syntax.specs.Lines.{is_small, is_label}
use Rattle.syntax.specs.Labels.{Label, Found, at, nowhere}

-- letters as one number, five bits a letter, after those that number a holds
abbrev pub spell : ℕ → List ℕ → ℕ
spell a [] = a
spell a (b ∷ l) = spell (32 * a + b % 32) l

abbrev pub all_small : List ℕ → Bool
all_small [] = true
all_small (b ∷ l) = is_small b && all_small l

-- The table: entry j has a label's number in keys, its address in places, and in nexts the entry before it of the same hash; heads has the last entry of each
-- hash. Entries are counted from 1 there, and 0 is none.

unfoldable pub hash_of : ℕ → ℕ
hash_of x = (x / 32768 + 7 * x) / 4 % 1024

-- the last of the first n entries whose number has this hash
abbrev pub last_in : List ℕ → ℕ → ℕ → ℕ
last_in keys zero h = 0
last_in keys (suc n) h = pick (eqb (hash_of (get_or keys n 0)) h) (suc n) (last_in keys n h)

-- the last of the first n entries of number x, if there is one
abbrev pub lookup : List ℕ → ℕ → ℕ → Option ℕ
lookup keys zero x = None
lookup keys (suc n) x = pick (eqb (get_or keys n 0) x) (Some n) (lookup keys n x)

-- the chains of the first n entries are right
pub record Chained (heads nexts keys : List ℕ) (n : ℕ) : Type 0 where
  pub head : (h : ℕ) → h < 1024 → get_or heads h 0 ≡ last_in keys n h
  pub next : (j : ℕ) → j < n → get_or nexts j 0 ≡ last_in keys j (hash_of (get_or keys j 0))

-- addresses from here on are out of every target's range, and held as one
unfoldable pub capped : ℕ → ℕ
capped a = pick (ltb a 0x800000) a 0x800000

-- the first entries are these labels, the last one first
abbrev pub Keyed : List ℕ → List ℕ → List Label → Type 0
Keyed keys places [] = Unit {0}
Keyed keys places (x ∷ xs) =
    T (is_label x.name) × T (all_small x.name) × (get_or keys (length xs) 0 ≡ spell 0 x.name) × (get_or places (length xs) 0 ≡ capped x.address) ×
    Keyed keys places xs

-- the place that an entry holds
abbrev pub place_of : List ℕ → Option ℕ → Option ℕ
place_of places None = None
place_of places (Some k) = Some (get_or places k 0)

-- an address as the table gives it
abbrev pub aim : Found → Option ℕ
aim nowhere = None
aim (at a) = Some (capped a)
