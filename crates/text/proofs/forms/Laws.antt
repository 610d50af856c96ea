-- Pieces: their lengths, and that a row's packed style names strings that there are.
-- Assumes nothing.
use Prim.Native.Nat.{ℕ, zero, suc, ◌+◌, ◌/◌, ◌%◌, ◌<◌, ◌≤◌}
use mathlib.Core.Path.{◌≡◌, refl, sym, ap, ◌∙◌}
use mathlib.Core.Bool.{Bool, not, ◌&&◌}
use mathlib.Core.List.{List, [], ◌∷◌}
use native.Mathlib.Omega.{arith}
use borrow.Author.Tests.{leb-true}
use lib.Dec.{T, eqb, leb}
use lib.ListN.{length, get_or, length-append}
use Rattle.std.proofs.Common.{Bor}
use Rattle.laws.specs.Choice.{either, is_true}
use Rattle.laws.specs.Table.{every, at_every}
use Rattle.laws.specs.Test.{Test, less, ◌and◌, test, holds, and_left, and_right}
use Rattle.laws.specs.Lists.{all, column, column_at, get_d_inside}
use Rattle.words.specs.declared.Instruction.{Instruction}
use Rattle.syntax.specs.Pieces.{equal}
use Rattle.syntax.proofs.Pieces.{equal_is}
use Rattle.text.specs.Printed.{strings, style_table}
use Rattle.text.specs.Packed.{string, Named, piece_text, form_text, shown_part, last_mark}
use Rattle.text.specs.declared.columns.TheConstants.{STRINGS, STYLES}
use Rattle.text.specs.declared.pieces.Piece.{Piece}
use Rattle.text.specs.declared.pieces.Form.{Form}
use Rattle.text.proofs.Spelled.{length_spelled}

-- lengths

pub length_piece : (p : Piece) → length (piece_text p) ≡ length p.bytes.now + p.width
unfolding piece_text
length_piece p = simp (length-append, length_spelled)

pub length_form : (f : Form) →
    length (form_text f) ≡ length (piece_text f.name) + (length (piece_text f.first) + (length (piece_text f.second) + length (piece_text f.last)))
unfolding form_text
length_form f = simp length-append

-- the tables that code holds

pub styles_right : STYLES ≡ style_table
unfolding style_table
styles_right = refl

abbrev bytes_of : Bor (List ℕ) → List ℕ
bytes_of r = r.now

abbrev pub byte_lists : List (List ℕ)
byte_lists = column (λ r. r.now) STRINGS

string_right : ℕ → Bool
string_right k = equal (get_or byte_lists k []) (string k) && leb (length (get_or byte_lists k [])) 8

strings_right : T (every 69 string_right)
unfolding string_right string strings
strings_right = tt

module _ (k : ℕ) (h : k < 69) (l : List (Bor (List ℕ))) (d : Bor (List ℕ)) (e : column bytes_of l ≡ byte_lists) where
  string_there : (get_or l k d).now ≡ get_or byte_lists k []
  string_there = sym (column_at bytes_of l k d) ∙ ap (λ (x : List (List ℕ)). get_or x k d.now) e ∙ get_d_inside byte_lists k d.now [] h

  pub string_is : (get_or l k d).now ≡ string k
  unfolding string_right
  string_is = string_there ∙ equal_is (get_or byte_lists k []) (string k) (and_left _ _ (at_every 69 string_right k strings_right h))

  pub string_short : length (get_or l k d).now ≤ 8
  unfolding string_right
  string_short = rw string_there (leb-true (length (get_or byte_lists k [])) 8 (is_true _ (and_right _ _ (at_every 69 string_right k strings_right h))))

-- a packed style names strings that there are

abbrev names_below : ℕ → ℕ → Test
names_below k p = less (p % 256) k and less (p / 0x1000 % 256) k and less (p / 0x10000000 % 256) k and less (p / 0x100000000000 % 256) k

all_named : T (all (λ p. test (names_below 69 p)) style_table)
unfolding style_table
all_named = tt

-- what holds of a list's numbers and of 0 holds at any place
anywhere : (f : ℕ → Bool) (l : List ℕ) (n : ℕ) → T (all f l) → T (f 0) → T (f (get_or l n 0))
anywhere f [] n t z = z
anywhere f (x ∷ l) zero t z = and_left (f x) (all f l) t
anywhere f (x ∷ l) (suc n) t z = anywhere f l n (and_right (f x) (all f l) t) z

pub style_named : (n p : ℕ) → p ≡ get_or style_table n 0 → Named 69 p
style_named n p e =
    let h = rw (← e) at (holds (names_below 69 (get_or style_table n 0)) (anywhere (λ p. test (names_below 69 p)) style_table n all_named tt)) in
    record { name_below = h.0; first_below = h.1.0; second_below = h.1.1.0; last_below = h.1.1.1 }

pub last_named : (p flagged bit m : ℕ) → Named 69 p → m ≡ last_mark flagged (p / 0x100000000000 % 256) bit → m < 69
unfolding last_mark
last_named p flagged bit m h e =
    rw e
    (either (λ x. x < 69) (eqb flagged 1 && not (eqb bit 0)) 0 (p / 0x100000000000 % 256)
    (λ _. omega arith)
    (λ _. h.last_below))

-- past the parts an operand shows nothing
pub shown_none : (k : ℕ) (i : Instruction) → (k ≡ 1 → ⊥) → (k ≡ 2 → ⊥) → (k ≡ 3 → ⊥) → (k ≡ 4 → ⊥) → 0 ≡ shown_part k i
unfolding shown_part
shown_none zero i a b c d = refl
shown_none (suc zero) i a b c d = absurd (a refl)
shown_none (suc (suc zero)) i a b c d = absurd (b refl)
shown_none (suc (suc (suc zero))) i a b c d = absurd (c refl)
shown_none (suc (suc (suc (suc zero)))) i a b c d = absurd (d refl)
shown_none (suc (suc (suc (suc (suc k))))) i a b c d = refl
