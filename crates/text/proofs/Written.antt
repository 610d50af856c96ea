-- What a write leaves on a page, part by part, and writes one after another.
-- Assumes nothing.
use Prim.Native.Nat.{ℕ, suc, ◌+◌, ◌≤◌}
use mathlib.Core.Path.{◌≡◌, refl, ◌∙◌}
use mathlib.Core.List.{List, [], ◌∷◌, ◌++◌}
use native.Mathlib.Nat.{add-zero, add-suc, suc-add}
use native.Mathlib.Omega.{arith}
use lib.ListN.{length, set, take, drop, length-append}
use lib.Seq.{sets, sets-eq, slice, length-sets, length-take-le, take-append-le, take_at, drop_at}
use Rattle.text.specs.Pages.{written, Wrote}

-- two runs, one after the other, are one run
pub sets_append : (l : List ℕ) (i : ℕ) (vs ws : List ℕ) → sets l i (vs ++ ws) ≡ sets (sets l i vs) (i + length vs) ws
sets_append l i [] ws = rw add-zero
sets_append l i (v ∷ vs) ws = rw (add-suc, ← suc-add i (length vs)) (sets_append (set l i v) (suc i) vs ws)

-- a write and then one from where it ended
pub then : {p q u : List ℕ} {at m r : ℕ} {s t : List ℕ} → Wrote p at s m q → Wrote q m t r u → Wrote p at (s ++ t) r u
unfolding written
then {p} {q} {u} {at} {m} {r} {s} {t} a b = record {
  next = rw length-append (omega (arith, a.next, b.next));
  page = b.page ∙ rw (sets_append, a.page, a.next);
}

pub length_written : (p : List ℕ) (at : ℕ) (t : List ℕ) → length (written p at t) ≡ length p
unfolding written
length_written p at t = length-sets p at t

-- what is written, part by part

module _ (p : List ℕ) (at : ℕ) (t : List ℕ) (h : at + length t ≤ length p) where
  written_is : written p at t ≡ (take at p ++ t) ++ drop (at + length t) p
  unfolding written
  written_is = sets-eq t p at h

  head_length : length (take at p ++ t) ≡ at + length t
  head_length = rw (length-append, length-take-le at p (omega arith))

  pub before_stays : take at (written p at t) ≡ take at p
  before_stays =
      rw written_is
      (take-append-le at (take at p ++ t) (drop (at + length t) p) (omega (arith, head_length)) ∙ take_at (take at p) t at (length-take-le at p (omega arith)))

  pub beyond_stays : drop (at + length t) (written p at t) ≡ drop (at + length t) p
  beyond_stays = rw written_is (drop_at (take at p ++ t) (drop (at + length t) p) (at + length t) head_length)

  pub between : slice at (at + length t) (written p at t) ≡ t
  between =
      rw (written_is, take_at (take at p ++ t) (drop (at + length t) p) (at + length t) head_length)
      (drop_at (take at p) t at (length-take-le at p (omega arith)))

pub written_append : (p : List ℕ) (at : ℕ) (s t : List ℕ) → written p at (s ++ t) ≡ written (written p at s) (at + length s) t
unfolding written
written_append p at s t = sets_append p at s t

pub written_none : (p : List ℕ) (at : ℕ) → written p at [] ≡ p
unfolding written
written_none p at = refl
