-- Where a form's lines show a part; and a line is of a form if it has the form's pattern, and the other way round.
-- Assumes nothing.
use Prim.Native.Nat.{ℕ, ◌+◌}
use mathlib.Core.Bool.{Bool, true, false}
use mathlib.Core.Path.{◌≡◌, refl, ap, ◌∙◌}
use mathlib.Core.List.{List, [], ◌∷◌}
use lib.Dec.{T}
use lib.ListN.{length, drop}
use lib.Seq.{drop-drop}
use Rattle.laws.specs.Choice.{pick}
use Rattle.words.specs.Frames.{Column, FLAG, NUMBER, DESTINATION, SOURCE, VALUE}
use Rattle.syntax.specs.Pieces.{Piece, says, shows, is_column, read, number_in, width_in, place_in, showable, once}
use Rattle.syntax.specs.Forms.{Form, pieces_of, part_of}
use Rattle.syntax.specs.Reading.{reading, is_form}
use Rattle.syntax.proofs.Pieces.{Fitting, print_fits, fits_prints, shown_some, equal_same}
use Rattle.syntax.proofs.Table.{pattern_of}
use Rattle.syntax.proofs.Reading.{form_prints}

-- a part, read by its place
pub read_place : (f : List Piece) (p : Column) (l : List ℕ) → read f p l ≡ number_in (width_in f p) (drop (place_in f p) l)
unfolding pick
read_place [] p l = refl
read_place (says t ∷ f) p l = read_place f p (drop (length t) l) ∙ ap (number_in (width_in f p)) (drop-drop (place_in f p) (length t) l)
read_place (shows w q ∷ f) p l = go (is_column p q) (read_place f p (drop w l) ∙ ap (number_in (width_in f p)) (drop-drop (place_in f p) w l))
  where
    go : (b : Bool) → read f p (drop w l) ≡ number_in (width_in f p) (drop (w + place_in f p) l) →
        pick b (number_in w l) (read f p (drop w l)) ≡ number_in (pick b w (width_in f p)) (drop (pick b 0 (w + place_in f p)) l)
    go true e = refl
    go false e = e

part_read : (f : Form) (l : List ℕ) (p : Column) → T (showable p) → part_of (reading f l) p ≡ read (pieces_of f) p l
unfolding part_of reading
part_read f l FLAG h = absurd h
part_read f l NUMBER h = absurd h
part_read f l DESTINATION h = refl
part_read f l SOURCE h = refl
part_read f l VALUE h = refl

pub fits_form : (f : Form) (l : List ℕ) → T (once (pieces_of f)) → Fitting (pattern_of f) l → T (is_form f l)
unfolding is_form
fits_form f l s h =
    rw (fits_prints (pieces_of f) (part_of (reading f l)) l s (λ p t. part_read f l p (shown_some (pieces_of f) p s t)) h)
    (equal_same l)

pub form_fits : (f : Form) (l : List ℕ) → T (is_form f l) → Fitting (pattern_of f) l
form_fits f l t = rw (form_prints f l t) at (print_fits (pieces_of f) (part_of (reading f l)))
