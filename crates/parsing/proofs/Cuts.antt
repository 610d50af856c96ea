-- Where a list is cut at the first element that passes a test, as `split` and `split_inclusive` say it. Assumes nothing.
use Prim.Native.Nat.{ℕ, suc, ◌+◌, ◌<◌, ◌≤◌, min}
use mathlib.Core.Path.{◌≡◌, refl, sym, ap, ◌∙◌}
use mathlib.Core.Bool.{Bool, true, false}
use mathlib.Core.List.{List, [], ◌∷◌, ◌++◌, append_assoc, append-nil}
use native.Mathlib.Omega.{arith}
use lib.ListN.{length, get_or, take, drop, drop_of_length-le, length-append, length-take}
use lib.Seq.{drop-cons, get_or-append_seam}
use Rattle.std.proofs.lemmas.List.{take-append-drop, get_or_append_left}
use Rattle.std.specs.List.{All, AllWithin, HoldsAt, IsFirstMatchOrLen}

-- none of a list's elements passes
abbrev pub Fails : (ℕ → Bool) → List ℕ → Type 0
Fails p xs = All (λ x. p x ≡ false) xs

pub fails_head : (p : ℕ → Bool) (b : ℕ) (t : List ℕ) → Fails p (b ∷ t) → p b ≡ false
fails_head p b t h = h 0 0 (omega arith)

pub fails_tail : (p : ℕ → Bool) (b : ℕ) (t : List ℕ) → Fails p (b ∷ t) → Fails p t
fails_tail p b t h k d l = h (suc k) d (omega arith)

pub fails_at : (p : ℕ → Bool) (x : List ℕ) (c : ℕ) (z : List ℕ) → Fails p (x ++ (c ∷ z)) → p c ≡ false
fails_at p x c z h = rw (get_or-append_seam x c z 0) at (h (length x) 0 (omega (arith, length-append x (c ∷ z))))

module _ (p : ℕ → Bool) (rest x : List ℕ) (i : ℕ) (l : length x ≡ i) where
  pub front_fails : (z : List ℕ) → rest ≡ x ++ z → AllWithin (λ b. p b ≡ false) rest 0 i → Fails p x
  front_fails z e h k d m = rw (e, get_or_append_left x z d k m) at (h k d (omega arith) (omega arith))

  pub next_passes : (c : ℕ) (z : List ℕ) → rest ≡ x ++ (c ∷ z) → HoldsAt (λ b. p b ≡ true) rest i → p c ≡ true
  next_passes c z e h = rw (e, ← l, get_or-append_seam x c z 0) at (h 0)

last_apart : (x : List ℕ) (i : ℕ) → length x ≡ i + 1 → x ≡ take i x ++ (get_or x i 0 ∷ [])
last_apart x i e =
    let h : i < length x = omega arith in
    let d : drop i x ≡ get_or x i 0 ∷ [] = drop-cons x i 0 h ∙ ap (λ (l : List ℕ). get_or x i 0 ∷ l) (drop_of_length-le x {i = suc i} (omega arith)) in
    sym (ap (λ (l : List ℕ). take i x ++ l) (sym d) ∙ take-append-drop i x)

-- a piece of a list before what is left of it: elements that fail, and one that passes
pub record Cut (p : ℕ → Bool) (rest x after : List ℕ) : Type 0 where
  pub front : List ℕ
  pub byte : ℕ
  pub whole : x ≡ front ++ (byte ∷ [])
  pub rest_is : rest ≡ front ++ (byte ∷ after)
  pub fails : Fails p front
  pub passes : p byte ≡ true

-- a piece that ends so, or with the list
module _ (p : ℕ → Bool) (rest x after : List ℕ) (i : ℕ) (e : rest ≡ x ++ after) (l : length x ≡ min (i + 1) (length rest)) (f : IsFirstMatchOrLen p rest i) where
  module _ (h : i < length rest) where
    front : List ℕ
    front = take i x

    whole : x ≡ front ++ (get_or x i 0 ∷ [])
    unfolding front
    whole = last_apart x i (omega arith)

    long : length front ≡ i
    unfolding front
    long = omega (arith, length-take i x)

    rest_is : rest ≡ front ++ (get_or x i 0 ∷ after)
    rest_is = e ∙ ap (λ (y : List ℕ). y ++ after) whole ∙ append_assoc front (get_or x i 0 ∷ []) after

    pub cut : Cut p rest x after
    cut = record {
      front = front;
      byte = get_or x i 0;
      whole = whole;
      rest_is = rest_is;
      fails = front_fails p rest front i long (get_or x i 0 ∷ after) rest_is f.0;
      passes = next_passes p rest front i long (get_or x i 0) after rest_is (f.1 h);
    }

  module _ (h : length rest ≤ i) where
    pub nothing_after : after ≡ []
    nothing_after = go after (omega (arith, ap length e, length-append x after))
      where
        go : (t : List ℕ) → length t ≡ 0 → t ≡ []
        go [] z = refl
        go (b ∷ t) z = absurd (omega arith)

    pub all_of_it : rest ≡ x
    all_of_it = e ∙ rw nothing_after (append-nil x)

    pub all_fail : Fails p x
    all_fail k d m = rw all_of_it at (f.0 k d (omega arith) (omega (arith, ap length all_of_it)))
