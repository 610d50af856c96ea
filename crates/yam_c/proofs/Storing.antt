-- Laws of numbers stored one after the other. Assumes nothing.
use mathlib.Core.Path.{◌≡◌, ◌∙◌}
use mathlib.Core.List.{List, [], ◌++◌, append-nil}
use Prim.Native.Nat.{ℕ, ◌+◌, ◌<◌, ◌≤◌}
use native.Mathlib.Nat.{add-zero, zero-add, add-suc}
use native.Mathlib.Numerals.{add-one}
use native.Mathlib.Omega.{arith}
use lib.ListN.{length, get_or, set, drop, drop_of_length-le}
use lib.Seq.{sets-eq, drop-cons}
use Rattle.image.proofs.Lists.{sets_append}
use Rattle.yam_c.specs.Flat.{stored}

-- before the first of them, at one of them, and after the last
pub stored_first : (l : List ℕ) (at : ℕ) (vs : List ℕ) → stored l (at + 0) (drop 0 vs) ≡ stored l at vs
stored_first l at vs = rw add-zero

pub stored_next : (l : List ℕ) (at i : ℕ) (vs : List ℕ) → i < length vs →
    stored (set l (at + i) (get_or vs i 0)) (at + (i + 1)) (drop (i + 1) vs) ≡ stored l (at + i) (drop i vs)
unfolding stored
stored_next l at i vs h = rw (drop-cons vs i 0 h, add-one i, add-suc at i)

pub stored_done : (l : List ℕ) (at i : ℕ) (vs : List ℕ) → length vs ≤ i → stored l at (drop i vs) ≡ l
unfolding stored
stored_done l at i vs h = rw (drop_of_length-le vs h)

pub stored_append : (l : List ℕ) (at : ℕ) (vs ws : List ℕ) → stored l at (vs ++ ws) ≡ stored (stored l at vs) (at + length vs) ws
unfolding stored
stored_append l at vs ws = sets_append l at vs ws

-- all places of a list
pub stored_all : (l vs : List ℕ) → length l ≡ length vs → stored l 0 vs ≡ vs
unfolding stored
stored_all l vs e =
    let r : drop (0 + length vs) l ≡ [] = rw zero-add (drop_of_length-le l {i = length vs} (omega arith)) in
    sets-eq vs l 0 (omega arith) ∙ rw r (append-nil vs)
