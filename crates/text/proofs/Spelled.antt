-- Laws of a run of stores and of digits, for every writer of digits.
-- Assumes nothing.
use mathlib.Core.Path.{◌≡◌, refl, sym, ap, ◌∙◌}
use mathlib.Core.List.{List, [], ◌∷◌}
use Prim.Native.Nat.{ℕ, zero, suc, ◌+◌, ◌/◌, ◌%◌, ◌<◌, ◌≤◌}
use mathlib.Core.Bool.{Bool}
use native.Mathlib.Nat.{add-suc}
use native.Mathlib.Numerals.{add-one}
use native.Mathlib.Omega.{arith}
use lib.Dec.{T}
use lib.ListN.{length, get_or, set, drop, length-append, drop_of_length-le}
use lib.Seq.{sets, set_comm, drop-cons}
use Rattle.laws.specs.Choice.{pick}
use Rattle.laws.specs.Table.{every, at_every}
use Rattle.syntax.specs.Digits.{spelled, digit, hex}
use Rattle.syntax.specs.Pieces.{equal}
use Rattle.syntax.proofs.Pieces.{equal_is}
use Rattle.text.specs.Pages.{written, Wrote}
use Rattle.text.specs.declared.pairs.TheConstants.{PAIRS}
use Rattle.text.proofs.Written.{sets_append}

-- a store past a run may come first
sets_set : (l : List ℕ) (k v i : ℕ) (vs : List ℕ) → i + length vs ≤ k → sets (set l k v) i vs ≡ set (sets l i vs) k v
sets_set l k v i [] h = refl
sets_set l k v i (a ∷ vs) h =
    rw (set_comm l k i v a (λ e. omega (arith, e))) (sets_set (set l i a) k v (suc i) vs (omega arith))

pub length_spelled : (f : ℕ → ℕ) (b w n : ℕ) → length (spelled f b w n) ≡ w
unfolding spelled
length_spelled f b zero n = refl
length_spelled f b (suc w) n = simp length-append (omega (arith, length_spelled f b w (n / b)))

-- the last digit stored first, and then the rest
digit_first : (f : ℕ → ℕ) (b : ℕ) (l : List ℕ) (at k m : ℕ) →
    sets (set l (at + k) (f (m % b))) at (spelled f b k (m / b)) ≡ sets l at (spelled f b (suc k) m)
unfolding spelled
digit_first f b l at k m =
    sets_set l (at + k) (f (m % b)) at (spelled f b k (m / b)) (omega (arith, length_spelled f b k (m / b)))
    ∙ sym (sets_append l at (spelled f b k (m / b)) (f (m % b) ∷ []) ∙ rw length_spelled)

-- The table of pairs has the two digits of each byte.

pair_right : ℕ → Bool
pair_right b = equal (get_or PAIRS b []) (digit (b / 16) ∷ digit (b % 16) ∷ [])

pairs_right : T (every 256 pair_right)
unfolding pair_right digit pick
pairs_right = tt

pub pair_at : (b : ℕ) → b < 256 → get_or PAIRS b [] ≡ digit (b / 16) ∷ digit (b % 16) ∷ []
unfolding pair_right
pair_at b h = equal_is _ _ (at_every 256 pair_right b pairs_right h)

-- two digits at a time

two_digits : (l p : List ℕ) (at k w m n : ℕ) → sets l at (hex (k + 2) m) ≡ sets p at (hex w n) →
    sets (set (set l (at + k) (digit (m % 256 / 16))) (at + k + 1) (digit (m % 256 % 16))) at (hex k (m / 256)) ≡ sets p at (hex w n)
two_digits l p at k w m n q =
    let r : m % 256 / 16 ≡ m / 16 % 16 = omega arith in
    let s : m % 256 % 16 ≡ m % 16 = omega arith in
    let t : m / 256 ≡ m / 16 / 16 = omega arith in
    let j : at + k + 1 ≡ at + suc k = omega arith in
    let e : k + 2 ≡ suc (suc k) = omega arith in
    rw (r, s, t, j, set_comm l (at + k) (at + suc k) (digit (m / 16 % 16)) (digit (m % 16)) (λ x. omega (arith, x)))
    (digit_first digit 16 (set l (at + suc k) (digit (m % 16))) at k (m / 16)
    ∙ digit_first digit 16 l at (suc k) m
    ∙ rw e at q)

pub pair_next : (l p : List ℕ) (at j k i w m n : ℕ) (t : List ℕ) → t ≡ digit (m % 256 / 16) ∷ digit (m % 256 % 16) ∷ [] → j ≡ at + k → i ≡ k + 2 →
    sets l at (hex i m) ≡ sets p at (hex w n) →
    sets (set (set l j (get_or t 0 0)) (j + 1) (get_or t 1 0)) at (hex k (m / 256)) ≡ sets p at (hex w n)
pair_next l p at j k i w m n t e f g q = rw (e, f) (two_digits l p at k w m n (rw g at q))

-- the odd digit, at the front
pub digit_last : (l p : List ℕ) (at k w m n : ℕ) (t : List ℕ) → t ≡ digit (m % 16 / 16) ∷ digit (m % 16 % 16) ∷ [] → k ≡ 1 →
    sets l at (hex k m) ≡ sets p at (hex w n) → Wrote p at (hex w n) (at + w) (set l at (get_or t 1 0))
unfolding written spelled
digit_last l p at k w m n t e z q =
    let d : m % 16 % 16 ≡ m % 16 = omega arith in
    rw (e, d) (record { next = rw length_spelled; page = rw z at q })

-- no digit left: written
pub digits_done : (l p : List ℕ) (at k w m n : ℕ) → k ≡ 0 → sets l at (hex k m) ≡ sets p at (hex w n) → Wrote p at (hex w n) (at + w) l
unfolding spelled written
digits_done l p at k w m n z q = record { next = rw length_spelled; page = rw z at q }

-- bytes stored one by one
pub byte_next : (l p bs : List ℕ) (at i : ℕ) → i < length bs → sets l (at + i) (drop i bs) ≡ sets p at bs →
    sets (set l (at + i) (get_or bs i 0)) (at + (i + 1)) (drop (i + 1) bs) ≡ sets p at bs
byte_next l p bs at i h q = rw (add-one, add-suc) (ap (sets l (at + i)) (sym (drop-cons bs i 0 h)) ∙ q)

pub bytes_done : (l p bs : List ℕ) (at i : ℕ) → i ≤ length bs → length bs ≤ i → sets l (at + i) (drop i bs) ≡ sets p at bs → Wrote p at bs (at + length bs) l
unfolding written
bytes_done l p bs at i k h q = record { next = refl; page = sym (ap (sets l (at + i)) (drop_of_length-le bs h)) ∙ q }
