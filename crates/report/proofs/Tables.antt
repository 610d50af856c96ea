-- The texts of specs/ as what is put for each item. Assumes nothing.
use Prim.Native.Nat.{ℕ, ◌+◌}
use mathlib.Core.Path.{◌≡◌, refl, sym, ap, ◌∙◌}
use mathlib.Core.List.{List, [], ◌∷◌, ◌++◌, append_assoc}
use native.Mathlib.Numerals.{add-one}
use Rattle.syntax.specs.Digits.{hex}
use Rattle.report.specs.Cells.{each_cell, each_pair, register_text, registers_from, cell_changes}
use Rattle.state.specs.declared.Core.{Core}
use Rattle.syntax.specs.Quoted.{quoted}
use Rattle.report.specs.declared.fields.Field.{Field as Value}
use Rattle.report.specs.Fields.{Field, shown_as, line_text, lines_of, change_text, changes_of}
use Rattle.report.specs.Values.{shown_text, value_lines, value_changes, HasFields}
use Rattle.report.proofs.Loops.{listed, zipped}

abbrev pub cell : List ℕ → ℕ → List ℕ → ℕ → ℕ → List ℕ
cell before w after i x = before ++ (hex w x ++ after)

pub cells_are : (before : List ℕ) (w : ℕ) (after : List ℕ) (i : ℕ) (xs : List ℕ) → listed (cell before w after) i xs ≡ each_cell before w after xs
unfolding each_cell
cells_are before w after i [] = refl
cells_are before w after i (x ∷ xs) = ap (λ z. cell before w after i x ++ z) (cells_are before w after (i + 1) xs)

abbrev pub pair : List ℕ → ℕ → List ℕ → List ℕ → ℕ → ℕ → ℕ → List ℕ
pair before w between after i a v = before ++ (hex w a ++ (between ++ (hex w v ++ after)))

pub pairs_are : (before : List ℕ) (w : ℕ) (between after : List ℕ) (i : ℕ) (ns vs : List ℕ) →
    zipped (pair before w between after) i ns vs ≡ each_pair before w between after ns vs
unfolding each_pair
pairs_are before w between after i [] vs = refl
pairs_are before w between after i (n ∷ ns) [] = refl
pairs_are before w between after i (n ∷ ns) (v ∷ vs) = ap (λ z. pair before w between after i n v ++ z) (pairs_are before w between after (i + 1) ns vs)

pub registers_are : (d w i : ℕ) (xs : List ℕ) → listed (register_text d w) i xs ≡ registers_from d w i xs
unfolding registers_from
registers_are d w i [] = refl
registers_are d w i (x ∷ xs) = ap (λ z. register_text d w i x ++ z) (registers_are d w (i + 1) xs ∙ ap (λ k. registers_from d w k xs) (add-one i))

abbrev pub change : List ℕ → ℕ → ℕ → ℕ → ℕ → ℕ → List ℕ
change mark d w i x y = change_text (mark ++ hex d i) (hex w y) x y

pub changes_are : (mark : List ℕ) (d w i : ℕ) (xs ys : List ℕ) → zipped (change mark d w) i xs ys ≡ cell_changes mark d w i xs ys
unfolding cell_changes
changes_are mark d w i [] ys = refl
changes_are mark d w i (x ∷ xs) [] = refl
changes_are mark d w i (x ∷ xs) (y ∷ ys) =
    ap (λ z. change mark d w i x y ++ z) (changes_are mark d w (i + 1) xs ys ∙ ap (λ k. cell_changes mark d w k xs ys) (add-one i))

-- The record's values

abbrev pub value_line : ℕ → Value → List ℕ
value_line i v = line_text v.name.now (shown_text v.shown v.value)

pub lines_are : (i : ℕ) (vs : List Value) → listed value_line i vs ≡ value_lines vs
lines_are i [] = refl
lines_are i (v ∷ vs) = ap (λ z. value_line i v ++ z) (lines_are (i + 1) vs)

abbrev pub value_change : ℕ → Value → Value → List ℕ
value_change i v w = change_text w.name.now (shown_text w.shown w.value) v.value w.value

pub value_changes_are : (i : ℕ) (vs ws : List Value) → zipped value_change i vs ws ≡ value_changes vs ws
value_changes_are i [] ws = refl
value_changes_are i (v ∷ vs) [] = refl
value_changes_are i (v ∷ vs) (w ∷ ws) = ap (λ z. value_change i v w ++ z) (value_changes_are (i + 1) vs ws)

pub lines_as : (m : Core) (vs : List Value) (fs : List Field) → HasFields m vs fs → value_lines vs ≡ lines_of fs m
lines_as m [] [] h = refl
lines_as m (v ∷ vs) [] h = absurd h
lines_as m [] (f ∷ fs) h = absurd h
lines_as m (v ∷ vs) (f ∷ fs) h = rw (← h.0.name, ← h.0.shown, ← h.0.value, lines_as m vs fs h.1)

pub changes_as : (old new : Core) (vs ws : List Value) (fs : List Field) → HasFields old vs fs → HasFields new ws fs → value_changes vs ws ≡ changes_of fs old new
changes_as old new [] [] [] h k = refl
changes_as old new [] (w ∷ ws) [] h k = absurd k
changes_as old new (v ∷ vs) ws [] h k = absurd h
changes_as old new [] ws (f ∷ fs) h k = absurd h
changes_as old new (v ∷ vs) [] (f ∷ fs) h k = absurd k
changes_as old new (v ∷ vs) (w ∷ ws) (f ∷ fs) h k =
    rw (← k.0.name, ← k.0.shown, ← k.0.value, ← h.0.value, changes_as old new vs ws fs h.1 k.1)

lines_append : (fs gs : List Field) (m : Core) → lines_of (fs ++ gs) m ≡ lines_of fs m ++ lines_of gs m
lines_append [] gs m = refl
lines_append (f ∷ fs) gs m =
    let line = line_text (quoted f.name) (shown_as f.shown (f.value m)) in
    ap (λ z. line ++ z) (lines_append fs gs m) ∙ sym (append_assoc line (lines_of fs m) (lines_of gs m))

changes_append : (fs gs : List Field) (old new : Core) → changes_of (fs ++ gs) old new ≡ changes_of fs old new ++ changes_of gs old new
changes_append [] gs old new = refl
changes_append (f ∷ fs) gs old new =
    let item = change_text (quoted f.name) (shown_as f.shown (f.value new)) (f.value old) (f.value new) in
    ap (λ z. item ++ z) (changes_append fs gs old new) ∙ sym (append_assoc item (changes_of fs old new) (changes_of gs old new))

-- three tables, one behind another, and what follows them

pub lines_of_three : (fs gs hs : List Field) (m : Core) (rest : List ℕ) →
    lines_of (fs ++ (gs ++ hs)) m ++ rest ≡ lines_of fs m ++ (lines_of gs m ++ (lines_of hs m ++ rest))
lines_of_three fs gs hs m rest = rw (lines_append fs (gs ++ hs) m, lines_append gs hs m) (simp append_assoc)

pub changes_of_three : (fs gs hs : List Field) (old new : Core) (rest : List ℕ) →
    changes_of (fs ++ (gs ++ hs)) old new ++ rest ≡ changes_of fs old new ++ (changes_of gs old new ++ (changes_of hs old new ++ rest))
changes_of_three fs gs hs old new rest = rw (changes_append fs (gs ++ hs) old new, changes_append gs hs old new) (simp append_assoc)
