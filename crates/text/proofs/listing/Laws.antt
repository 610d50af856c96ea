-- A listing line by line, and its refusals.
-- Assumes nothing.
use Prim.Native.Nat.{ℕ, suc, max, ◌+◌, ◌-◌, ◌<◌, ◌≤◌}
use mathlib.Core.Path.{◌≡◌, refl, sym, ap, ◌∙◌}
use mathlib.Core.Bool.{Bool, true, false}
use mathlib.Core.List.{List}
use Rattle.std.proofs.Math.Nat.{max-eq_left, max-eq_right}
use native.Mathlib.Numerals.{add-one}
use native.Mathlib.Omega.{arith}
use borrow.Author.Tests.{eq-eqb, ne_eqb, lt-leb, le-leb, ltb-true, ltb-false}
use lib.Dec.{leb, ltb}
use lib.ListN.{length, get_or, length-append}
use Rattle.laws.specs.Choice.{pick}
use Rattle.laws.specs.Test.{test}
use Rattle.words.specs.declared.Config.{Config}
use Rattle.words.specs.Configs.{lawful}
use Rattle.text.specs.Pages.{written, Wrote}
use Rattle.text.specs.Texts.{word_text}
use Rattle.text.specs.declared.errors.ListError.{ListError}
use Rattle.text.specs.declared.errors.ListError.TheVariants.{Unlawful, WrongSize, NoRoom}
use Rattle.text.specs.Answers.{list_error_number}
use Rattle.text.specs.Lines.{line_of, line_at, Listing, listing, listed, list_number, list_of}
use Rattle.text.proofs.Spelled.{length_spelled}

pub length_line : (a w : ℕ) (t : List ℕ) → length (line_of a w t) ≡ length t + 17
unfolding line_of
length_line a w t = simp (length-append, length_spelled) (omega arith)

-- the line at a, as the code has it
line_is : (c : Config) (image : List ℕ) (a w : ℕ) (f : List ℕ) → w ≡ get_or image a 0 → f ≡ word_text c w → line_of a w f ≡ line_at c image a
unfolding line_at
line_is c image a w f e t = rw (t, e)

-- one line more

next_line : (c : Config) (image page : List ℕ) (place a k m : ℕ) → suc k ≡ m → leb (place + length (line_at c image a)) (length page) ≡ true →
    listed c image (written page place (line_at c image a)) (place + length (line_at c image a)) (a + 1) k ≡ listed c image page place a m
unfolding listed pick
next_line c image page place a k m e h = rw (← e, h, add-one)

no_line : (c : Config) (image page : List ℕ) (place a k m : ℕ) → suc k ≡ m → leb (place + length (line_at c image a)) (length page) ≡ false →
    listing 18 place a page ≡ listed c image page place a m
unfolding listed pick
no_line c image page place a k m e h = rw (← e, h)

module _ (c : Config) (image page : List ℕ) (at a w n : ℕ) (f : List ℕ) (word : w ≡ get_or image a 0) (text : f ≡ word_text c w)
    (size : n ≡ length f + 17) (more : a < length image) where
  line_here : line_of a w f ≡ line_at c image a
  line_here = line_is c image a w f word text

  room_is : leb (at + n) (length page) ≡ leb (at + length (line_at c image a)) (length page)
  room_is = ap (λ (m : ℕ). leb (at + m) (length page)) (size ∙ sym (length_line a w f) ∙ ap length line_here)

  pub goes_on : {q : List ℕ} {r : ℕ} → leb (at + n) (length page) ≡ true → Wrote page at (line_of a w f) r q →
      listed c image q r (a + 1) (length image - (a + 1)) ≡ listed c image page at a (length image - a)
  goes_on {q} {r} h o =
      rw (o.page, o.next, line_here)
      (next_line c image page at a (length image - (a + 1)) (length image - a) (omega arith) (sym room_is ∙ h))

  pub stops : leb (at + n) (length page) ≡ false → listing 18 at a page ≡ listed c image page at a (length image - a)
  stops h = no_line c image page at a (length image - (a + 1)) (length image - a) (omega arith) (sym room_is ∙ h)

-- no line is left
pub ends : (c : Config) (image page : List ℕ) (at a next : ℕ) → length image ≤ a → next ≡ a →
    listing 0 at next page ≡ listed c image page at a (length image - a)
unfolding listed
ends c image page at a next h e = let z : length image - a ≡ 0 = omega arith in rw (z, e)

-- the address after the last line
pub last_next : (first n a m : ℕ) → m ≡ max first n → n ≤ a → (first ≤ n → a ≤ n) → (n ≤ first → a ≡ first) → m ≡ a
last_next first n a m e f g h = go (ltb first n) refl
  where
    go : (b : Bool) → ltb first n ≡ b → m ≡ a
    go true t =
        let l = ltb-true first n t in
        let k : max first n ≡ n = max-eq_right (omega arith) in
        let i = g (omega arith) in
        omega (arith, e, k, i)
    go false t =
        let l = ltb-false first n t in
        let k : max first n ≡ first = max-eq_left l in
        let i = h l in
        omega (arith, e, k, i)

-- refusals

module _ (c : Config) (words size place : ℕ) where
  pub number_1 : test (lawful c) ≡ false → 1 ≡ list_number c words size place
  unfolding list_number pick
  number_1 h = rw h

  pub number_2 : test (lawful c) ≡ true → (words ≡ c.imsize → ⊥) → 2 ≡ list_number c words size place
  unfolding list_number pick
  number_2 h n = rw (h, ne_eqb words c.imsize n)

  pub number_18 : test (lawful c) ≡ true → words ≡ c.imsize → size < place → 18 ≡ list_number c words size place
  unfolding list_number pick
  number_18 h n k = rw (h, eq-eqb words c.imsize n, lt-leb place size k)

  pub number_0 : test (lawful c) ≡ true → words ≡ c.imsize → place ≤ size → 0 ≡ list_number c words size place
  unfolding list_number pick
  number_0 h n k = rw (h, eq-eqb words c.imsize n, le-leb place size k)

not_zero : (x : ListError) → list_error_number x ≡ 0 → ⊥
not_zero Unlawful e = omega (arith, e)
not_zero WrongSize e = omega (arith, e)
not_zero NoRoom e = omega (arith, e)

pub refused_list : (c : Config) (image page : List ℕ) (first place : ℕ) (x : ListError) → list_error_number x ≡ list_number c (length image) (length page) place →
    listing (list_error_number x) place first page ≡ list_of c image first page place
unfolding list_of pick
refused_list c image page first place x e = rw (← e, ne_eqb (list_error_number x) 0 (not_zero x))

pub whole_list : (c : Config) (image page : List ℕ) (first place : ℕ) (a : Listing) (k : Config) → k ≡ c → 0 ≡ list_number c (length image) (length page) place →
    a ≡ listed k image page place first (length image - first) → a ≡ list_of c image first page place
unfolding list_of pick
whole_list c image page first place a k s e h = rw (← e, ← s) h
