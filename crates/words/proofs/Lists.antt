-- The row of a code by a table of bytes, and past a list's codes.
-- Assumes nothing.
use Prim.Native.Nat.{ℕ, ◌+◌, ◌≤◌, ◌<◌}
use mathlib.Core.Path.{◌≡◌, refl, sym, ◌∙◌}
use mathlib.Core.Bool.{Bool, true, false, ◌&&◌}
use mathlib.Core.List.{List, [], ◌∷◌}
use native.Mathlib.Omega.{arith}
use borrow.Author.Tests.{ltb-true, ltb-false}
use lib.Dec.{T, ltb, eqb, ltb→lt, eqb→eq}
use lib.ListN.{length, get_or, get_or-eq_default}
use Rattle.laws.specs.Choice.{pick, pick_no}
use Rattle.laws.specs.Test.{and_left, and_right}
use Rattle.laws.specs.Table.{every, at_every}
use Rattle.words.specs.declared.numbers.TheConstants.{BYTE_ROWS, INDEX_ROWS, MISC_ROWS}
use Rattle.words.specs.Numbers.{MOVIO-read}
use Rattle.words.specs.Classes.{none, lookup, byte_rows, index_rows, port_rows, misc_rows}

-- no code of the list is b or above
abbrev codes_below : ℕ → List (ℕ × ℕ) → Bool
codes_below b [] = true
codes_below b (x ∷ l) = ltb x.0 b && codes_below b l

past : (b : ℕ) (l : List (ℕ × ℕ)) (n : ℕ) → T (codes_below b l) → b ≤ n → lookup l n ≡ none
past b [] n t h = refl
past b (x ∷ l) n t h =
    let under = ltb→lt x.0 b (and_left (ltb x.0 b) (codes_below b l) t) in
    pick_no (eqb n x.0) x.1 (lookup l n) (λ q. let e = eqb→eq n x.0 q in omega arith) ∙
    past b l n (and_right (ltb x.0 b) (codes_below b l) t) h

-- one test for each table
found : (rows : List ℕ) (l : List (ℕ × ℕ)) (b n : ℕ) → length rows ≡ b → T (codes_below b l) →
    T (every b (λ m. eqb (get_or rows m none) (lookup l m))) → get_or rows n none ≡ lookup l n
found rows l b n e u t = go (ltb n b) refl
  where
    go : (q : Bool) → ltb n b ≡ q → get_or rows n none ≡ lookup l n
    go true h = eqb→eq _ _ (at_every b (λ m. eqb (get_or rows m none) (lookup l m)) n t (ltb-true n b h))
    go false h =
        let p = ltb-false n b h in
        get_or-eq_default rows none (rw e p) ∙ sym (past b l n u p)

pub byte_codes : (n : ℕ) → get_or BYTE_ROWS n none ≡ lookup byte_rows n
unfolding pick
byte_codes n = found BYTE_ROWS byte_rows 16 n refl tt tt

pub index_codes : (n : ℕ) → get_or INDEX_ROWS n none ≡ lookup index_rows n
unfolding pick
index_codes n = found INDEX_ROWS index_rows 32 n refl tt tt

pub misc_codes : (n : ℕ) → get_or MISC_ROWS n none ≡ lookup misc_rows n
unfolding pick
misc_codes n = found MISC_ROWS misc_rows 8 n refl tt tt

pub port_codes : (n : ℕ) → n < 2 → MOVIO-read + n ≡ lookup port_rows n
unfolding pick
port_codes n h = eqb→eq _ _ (at_every 2 (λ m. eqb (MOVIO-read + m) (lookup port_rows m)) n tt h)
