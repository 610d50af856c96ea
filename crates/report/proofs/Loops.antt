-- Writers in a loop: what is left to put, from here, puts the whole. Assumes nothing.
use Prim.Native.Nat.{ℕ, ◌+◌, ◌<◌, ◌≤◌, min}
use mathlib.Core.Path.{◌≡◌, refl, sym, ap, subst, ◌∙◌}
use mathlib.Core.Bool.{Bool, true, false}
use mathlib.Core.List.{List, [], ◌∷◌, ◌++◌}
use native.Mathlib.Numerals.{add-one}
use native.Mathlib.Omega.{arith}
use borrow.Author.Tests.{leb-true, leb-false}
use denote.Ref.{Bor}
use lib.Dec.{leb}
use lib.ListN.{length, get_or, drop, drop_of_length-le, length-append}
use lib.Seq.{drop-cons}
use Rattle.std.proofs.Common.{Option, Some, None}
use Rattle.std.proofs.iter.Yields.{fronts}
use Rattle.std.proofs.lemmas.Iterator.{zips}
use Rattle.std.proofs.lemmas.Slice.Zip.{zip_turn, zip_end}
use Rattle.std.specs.declared.iter.Zip.{Zip}
use Rattle.std.specs.declared.slice.Iter.{Iter}
use Rattle.std.specs.Iterator.{Yields}
use Rattle.std.specs.Iterator.Adapters.{zip_first, zip_second}
use Rattle.std.specs.Slice.Iter.{iter_rest}
use Rattle.printing.specs.declared.printer.Printer.{Printer}
use Rattle.printing.specs.Printers.{Prints}
use Rattle.printing.proofs.Printers.{prints_nothing, prints_then, prints_as}

-- what is put for each item, numbered from i on
abbrev pub listed : {A : Type 0} → (ℕ → A → List ℕ) → ℕ → List A → List ℕ
listed f i [] = []
listed f i (x ∷ xs) = f i x ++ listed f (i + 1) xs

-- the same for the pairs of two lists
abbrev pub zipped : {A B : Type 0} → (ℕ → A → B → List ℕ) → ℕ → List A → List B → List ℕ
zipped f i [] ys = []
zipped f i (x ∷ xs) [] = []
zipped f i (x ∷ xs) (y ∷ ys) = f i x y ++ zipped f (i + 1) xs ys

abbrev pub Leads : Printer → List ℕ → Printer → List ℕ → Type 0
Leads a whole b rest = (c : Printer) → Prints b rest c → Prints a whole c

goes : {a b c : Printer} {whole item rest : List ℕ} → Leads a whole b (item ++ rest) → Prints b item c → Leads a whole c rest
goes l h d k = l d (prints_then h k)

done : {a b : Printer} {whole rest : List ℕ} → rest ≡ [] → Leads a whole b rest → Prints a whole b
done {a} {b} e l = l b (prints_as (sym e) (prints_nothing b))

-- the list from i on is its item at i and the rest
from : {A : Type 0} (xs : List A) (i : ℕ) (d : A) → i < length xs → drop i xs ≡ get_or xs i d ∷ drop (i + 1) xs
from xs i d h = rw add-one (drop-cons xs i d h)

module _ {a : Printer} {whole : List ℕ} where
  pub each_on : {A : Type 0} (f : ℕ → A → List ℕ) (xs : List A) (i : ℕ) (d : A) {b c : Printer} → i < length xs → Leads a whole b (listed f i (drop i xs)) →
      Prints b (f i (get_or xs i d)) c → Leads a whole c (listed f (i + 1) (drop (i + 1) xs))
  each_on {A} f xs i d {b} h l k = goes (subst (λ (z : List A). Leads a whole b (listed f i z)) (from xs i d h) l) k

  pub each_done : {A : Type 0} (f : ℕ → A → List ℕ) (xs : List A) (i : ℕ) {b : Printer} → length xs ≤ i → Leads a whole b (listed f i (drop i xs)) → Prints a whole b
  each_done f xs i h l = done (ap (listed f i) (drop_of_length-le xs h)) l

  -- the pairs of two lists, by position
  pair_on : {A B : Type 0} (f : ℕ → A → B → List ℕ) (xs : List A) (ys : List B) (i : ℕ) (x : A) (y : B) {b c : Printer} → i < length xs → i < length ys →
      x ≡ get_or xs i x → y ≡ get_or ys i y → Leads a whole b (zipped f i (drop i xs) (drop i ys)) → Prints b (f i x y) c →
      Leads a whole c (zipped f (i + 1) (drop (i + 1) xs) (drop (i + 1) ys))
  pair_on {A} {B} f xs ys i x y {b} h g p q l k =
      let s : drop i xs ≡ x ∷ drop (i + 1) xs = from xs i x h ∙ ap (λ (z : A). z ∷ drop (i + 1) xs) (sym p) in
      let t : drop i ys ≡ y ∷ drop (i + 1) ys = from ys i y g ∙ ap (λ (z : B). z ∷ drop (i + 1) ys) (sym q) in
      goes (subst (λ (z : List B). Leads a whole b (zipped f i (x ∷ drop (i + 1) xs) z)) t (subst (λ (z : List A). Leads a whole b (zipped f i z (drop i ys))) s l)) k

none_left : {A B : Type 0} (f : ℕ → A → B → List ℕ) (xs : List A) (ys : List B) (i : ℕ) → min (length xs) (length ys) ≤ i → zipped f i (drop i xs) (drop i ys) ≡ []
none_left f xs ys i e = go (leb (length xs) i) refl
  where
    no_second : {A B : Type 0} (g : ℕ → A → B → List ℕ) (j : ℕ) (us : List A) → zipped g j us [] ≡ []
    no_second g j [] = refl
    no_second g j (u ∷ us) = refl

    go : (b : Bool) → leb (length xs) i ≡ b → zipped f i (drop i xs) (drop i ys) ≡ []
    go true h = ap (λ z. zipped f i z (drop i ys)) (drop_of_length-le xs (leb-true (length xs) i h))
    go false h =
        let k = leb-false (length xs) i h in
        ap (zipped f i (drop i xs)) (drop_of_length-le ys (omega arith)) ∙ no_second f i (drop i xs)

-- a loop over the places of both
module _ {a : Printer} {whole : List ℕ} where
  pub pairs_on : {A B : Type 0} (f : ℕ → A → B → List ℕ) (xs : List A) (ys : List B) (i : ℕ) (x : A) (y : B) {b c : Printer} → i < length xs → i < length ys →
      Leads a whole b (zipped f i (drop i xs) (drop i ys)) → Prints b (f i (get_or xs i x) (get_or ys i y)) c →
      Leads a whole c (zipped f (i + 1) (drop (i + 1) xs) (drop (i + 1) ys))
  pairs_on {A} {B} f xs ys i x y {b} h g l k =
      goes (subst (λ (z : List B). Leads a whole b (zipped f i (get_or xs i x ∷ drop (i + 1) xs) z)) (from ys i y g) (subst (λ (z : List A). Leads a whole b (zipped f i z (drop i ys))) (from xs i x h) l)) k

  pub pairs_done : {A B : Type 0} (f : ℕ → A → B → List ℕ) (xs : List A) (ys : List B) (i : ℕ) {b : Printer} → min (length xs) (length ys) ≤ i →
      Leads a whole b (zipped f i (drop i xs) (drop i ys)) → Prints a whole b
  pairs_done f xs ys i h l = done (none_left f xs ys i h) l

-- a loop over a `zip` of two slices
module _ {A B : Type 0} {a : Printer} {whole : List ℕ} (f : ℕ → A → B → List ℕ) (xs : List A) (ys : List B) (yielded : List (Bor A × Bor B)) where
  pub zip_on : (s t u : Zip (Iter A) (Iter B)) (r : Option (Bor A × Bor B)) {b c : Printer} → iter_rest (zip_first s) ≡ xs → iter_rest (zip_second s) ≡ ys →
      Yields (zips fronts fronts) s yielded t → (p : Bor A × Bor B) → r ≡ Some p → zips fronts fronts t r u →
      Leads a whole b (zipped f (length yielded) (drop (length yielded) xs) (drop (length yielded) ys)) → Prints b (f (length yielded) p.0.now p.1.now) c →
      Leads a whole c (zipped f (length (yielded ++ p ∷ [])) (drop (length (yielded ++ p ∷ [])) xs) (drop (length (yielded ++ p ∷ [])) ys))
  zip_on s t u r {b} {c} first second y p is steps l k =
      let turn = zip_turn xs ys yielded s t u r first second y p is steps in
      let long : length yielded + 1 ≡ length (yielded ++ p ∷ []) = sym (length-append yielded (p ∷ [])) in
      subst (λ (n : ℕ). Leads a whole c (zipped f n (drop n xs) (drop n ys))) long
      (pair_on f xs ys (length yielded) p.0.now p.1.now turn.0 turn.1 (turn.2 _) (turn.3 _) l k)

  pub zip_done : (s t u : Zip (Iter A) (Iter B)) (r : Option (Bor A × Bor B)) {b : Printer} → iter_rest (zip_first s) ≡ xs → iter_rest (zip_second s) ≡ ys →
      Yields (zips fronts fronts) s yielded t → r ≡ None → zips fronts fronts t r u →
      Leads a whole b (zipped f (length yielded) (drop (length yielded) xs) (drop (length yielded) ys)) → Prints a whole b
  zip_done s t u r first second y is steps l =
      let all = zip_end xs ys yielded s t u r first second y is steps in
      done (none_left f xs ys (length yielded) (omega (arith, all))) l
