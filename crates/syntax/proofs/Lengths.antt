-- How long the texts of words are.
-- Assumes nothing.
use Prim.Native.Nat.{ℕ, ◌+◌, ◌≤◌}
use mathlib.Core.Path.{◌≡◌, refl, ap, ◌∙◌}
use mathlib.Core.List.{List, [], ◌∷◌}
use native.Mathlib.Omega.{arith}
use lib.Dec.{T, leb, leb→le}
use lib.ListN.{length, length-append}
use Rattle.laws.specs.Choice.{pick}
use Rattle.words.specs.declared.Config.{Config}
use Rattle.words.specs.declared.Instruction.{Instruction}
use Rattle.words.specs.Claims.{understood}
use Rattle.words.specs.Frames.{Column}
use Rattle.words.specs.Rows.{rows, row_at}
use Rattle.words.specs.Words.{read_of}
use Rattle.syntax.specs.Digits.{spelled, digit}
use Rattle.syntax.specs.Pieces.{Piece, says, shows, print}
use Rattle.syntax.specs.Styles.{styles, style_at}
use Rattle.syntax.specs.Forms.{number_text, flag_text, pieces_of, part_of, form_of, text_of, numbers_of, flags_of, forms_of, forms}
use Rattle.syntax.proofs.Pieces.{length_hex}
use Rattle.syntax.proofs.Table.{all_of, all_in}
use Rattle.syntax.proofs.Reading.{readable_within}

abbrev size_of : List Piece → ℕ
size_of [] = 0
size_of (says t ∷ f) = length t + size_of f
size_of (shows w p ∷ f) = w + size_of f

length_print : (f : List Piece) (g : Column → ℕ) → length (print f g) ≡ size_of f
length_print [] g = refl
length_print (says t ∷ f) g = length-append t (print f g) ∙ ap (λ (n : ℕ). length t + n) (length_print f g)
length_print (shows w p ∷ f) g = rw (length-append, length_hex w (g p), length_print f g)

forms_short : T (all_of (λ f. leb (size_of (pieces_of f)) 16) forms)
unfolding forms forms_of pieces_of numbers_of flags_of number_text flag_text rows row_at styles style_at pick spelled digit
forms_short = tt

-- no text of a word that can be read is longer than 16 bytes
pub text_short : (c : Config) (w : ℕ) (i : Instruction) → read_of c w ≡ understood i → length (text_of c i) ≤ 16
unfolding text_of
text_short c w i e =
    let h = readable_within c w i e in
    let k = leb→le (size_of (pieces_of (form_of i))) 16 (all_in (λ f. leb (size_of (pieces_of f)) 16) forms (form_of i) forms_short h.one) in
    let l = length_print (pieces_of (form_of i)) (part_of i) in
    omega (arith, l, k)
