-- Pieces that print the same: alike once their bytes are joined and digits of no width are dropped.
-- Assumes nothing.
use Prim.Native.Nat.{ℕ, zero, suc}
use mathlib.Core.Bool.{Bool, true, false, ◌&&◌}
use mathlib.Core.Path.{◌≡◌, refl, ap, sym, ◌∙◌}
use mathlib.Core.List.{List, [], ◌∷◌, ◌++◌, append_assoc}
use lib.Dec.{T, eqb, eqb→eq}
use Rattle.laws.specs.Test.{and_left, and_right}
use Rattle.words.specs.Frames.{Column}
use Rattle.syntax.specs.Digits.{spelled, hex}
use Rattle.syntax.specs.Pieces.{Piece, says, shows, print, is_column, equal}
use Rattle.syntax.proofs.Pieces.{column_is, equal_is}

abbrev close : List ℕ → List Piece → List Piece
close [] f = f
close (x ∷ t) f = says (x ∷ t) ∷ f

-- the pieces f after the bytes a
abbrev tidied : List ℕ → List Piece → List Piece
tidied a [] = close a []
tidied a (says t ∷ f) = tidied (a ++ t) f
tidied a (shows zero p ∷ f) = tidied a f
tidied a (shows (suc w) p ∷ f) = close a (shows (suc w) p ∷ tidied [] f)

print_close : (a : List ℕ) (f : List Piece) (g : Column → ℕ) → print (close a f) g ≡ a ++ print f g
print_close [] f g = refl
print_close (x ∷ t) f g = refl

print_tidied : (a : List ℕ) (f : List Piece) (g : Column → ℕ) → print (tidied a f) g ≡ a ++ print f g
unfolding spelled
print_tidied a [] g = print_close a [] g
print_tidied a (says t ∷ f) g = print_tidied (a ++ t) f g ∙ append_assoc a t (print f g)
print_tidied a (shows zero p ∷ f) g = print_tidied a f g
print_tidied a (shows (suc w) p ∷ f) g =
    print_close a (shows (suc w) p ∷ tidied [] f) g ∙ ap (λ (l : List ℕ). a ++ (hex (suc w) (g p) ++ l)) (print_tidied [] f g)

abbrev same-piece : Piece → Piece → Bool
same-piece (says s) (says t) = equal s t
same-piece (says s) (shows w p) = false
same-piece (shows w p) (says t) = false
same-piece (shows w p) (shows v q) = eqb w v && is_column p q

abbrev same-pieces : List Piece → List Piece → Bool
same-pieces [] [] = true
same-pieces [] (y ∷ f) = false
same-pieces (x ∷ e) [] = false
same-pieces (x ∷ e) (y ∷ f) = same-piece x y && same-pieces e f

piece_is : (x y : Piece) → T (same-piece x y) → x ≡ y
piece_is (says s) (says t) h = ap says (equal_is s t h)
piece_is (says s) (shows w p) h = absurd h
piece_is (shows w p) (says t) h = absurd h
piece_is (shows w p) (shows v q) h =
    rw (eqb→eq w v (and_left (eqb w v) (is_column p q) h), column_is p q (and_right (eqb w v) (is_column p q) h))

pieces_are : (e f : List Piece) → T (same-pieces e f) → e ≡ f
pieces_are [] [] h = refl
pieces_are [] (y ∷ f) h = absurd h
pieces_are (x ∷ e) [] h = absurd h
pieces_are (x ∷ e) (y ∷ f) h =
    rw (piece_is x y (and_left (same-piece x y) (same-pieces e f) h), pieces_are e f (and_right (same-piece x y) (same-pieces e f) h))

abbrev pub alike : List Piece → List Piece → Bool
alike e f = same-pieces (tidied [] e) (tidied [] f)

pub alike_print : (e f : List Piece) (g : Column → ℕ) → T (alike e f) → print e g ≡ print f g
alike_print e f g t = sym (print_tidied [] e g) ∙ ap (λ (x : List Piece). print x g) (pieces_are (tidied [] e) (tidied [] f) t) ∙ print_tidied [] f g
