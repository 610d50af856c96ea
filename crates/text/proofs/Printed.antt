-- What code prints by its strings and packed styles is the text: one computed test over the rows and bit 26.
-- Assumes nothing.
use Prim.Native.Nat.{ℕ, zero, suc, ◌*◌, ◌/◌, ◌%◌, ◌≤◌}
use mathlib.Core.Bool.{Bool, true, false, not, ◌&&◌}
use mathlib.Core.Path.{◌≡◌, refl, sym, ◌∙◌}
use mathlib.Core.List.{List, [], ◌∷◌, ◌++◌, append_assoc, append-nil}
use native.Mathlib.Omega.{arith}
use borrow.Author.Tests.{ltb-true, ltb-false}
use lib.Dec.{T, ltb, eqb}
use lib.ListN.{get_or, get_or-eq_default}
use Rattle.laws.specs.Choice.{pick}
use Rattle.laws.specs.Table.{every, at_every}
use Rattle.words.specs.declared.Config.{Config}
use Rattle.words.specs.declared.Instruction.{Instruction}
use Rattle.words.specs.Parts.{Part, flag, byte, is}
use Rattle.words.specs.Frames.{Column, NUMBER, DESTINATION, SOURCE, VALUE}
use Rattle.words.specs.Rows.{Row, rows, no_row, row_count, row_at}
use Rattle.syntax.specs.Digits.{spelled, digit, hex}
use Rattle.syntax.specs.Quoted.{quoted}
use Rattle.syntax.specs.Pieces.{Piece, says, shows, print}
use Rattle.syntax.specs.Operands.{Style, style}
use Rattle.syntax.specs.Styles.{styles, style_at}
use Rattle.syntax.specs.Forms.{operands_from, number_text, flag_text, pieces_of, part_of, text_of}
use Rattle.syntax.proofs.Pieces.{print_append}
use Rattle.text.specs.Printed.{strings, style_table}
use Rattle.text.specs.Packed.{string, shown_part, last_mark, style_text}
use Rattle.text.proofs.Tidy.{alike, alike_print}

-- a packed style as pieces; `updates` where bit 26 is 0

-- w digits of 16 times the unit: one digit less of the unit, and a 0
abbrev offset_digits : ℕ → List Piece
offset_digits zero = []
offset_digits (suc w) = shows w DESTINATION ∷ says (quoted "0") ∷ []

-- w digits of the part of number k
part_digits : ℕ → ℕ → List Piece
part_digits w k =
    get_or ((says (hex w 0) ∷ []) ∷ (shows w DESTINATION ∷ []) ∷ (shows w SOURCE ∷ []) ∷ (shows w VALUE ∷ []) ∷ offset_digits w ∷ []) k (says (hex w 0) ∷ [])

abbrev last_string : ℕ → Bool → ℕ
last_string p updates = pick (eqb (p / 0x10000000000000 % 16) 1 && not updates) 0 (p / 0x100000000000 % 256)

packed_pieces : ℕ → Bool → List Piece
packed_pieces p updates =
    says (string (p % 256)) ∷ (shows (p / 0x100 % 16) NUMBER ∷ (
    says (string (p / 0x1000 % 256)) ∷ (part_digits (p / 0x100000 % 16) (p / 0x1000000 % 16) ++ (
    says (string (p / 0x10000000 % 256)) ∷ (part_digits (p / 0x1000000000 % 16) (p / 0x10000000000 % 16) ++ (
    says (string (last_string p updates)) ∷ []))))))

-- a row's pieces, the byte number shown as a part
row_pieces : Row → Style → Bool → List Piece
row_pieces r s updates =
    says (quoted s.name) ∷ (shows (pick (is r.number byte) 1 0) NUMBER ∷ (
    operands_from " " s.operands ++ (
    says (quoted (pick (is r.flag flag && updates) ",S" "")) ∷ [])))

-- the two are alike, at every row and past the rows

agree : Row → Style → ℕ → Bool → Bool
agree r s p updates = alike (packed_pieces p updates) (row_pieces r s updates)

agree_at : Bool → ℕ → Bool
agree_at b n = agree (row_at n) (style_at n) (get_or style_table n 0) b

all_agree : (b : Bool) → T (every row_count (agree_at b))
unfolding agree_at agree packed_pieces part_digits row_pieces string strings style_table rows row_at styles style_at pick spelled digit
all_agree true = tt
all_agree false = tt

none_agree : (b : Bool) → T (agree no_row (style 0 "" []) 0 b)
unfolding agree packed_pieces part_digits row_pieces string strings pick spelled digit
none_agree true = tt
none_agree false = tt

past_rows : (n : ℕ) → row_count ≤ n → row_at n ≡ no_row
unfolding row_at rows
past_rows n h = get_or-eq_default rows no_row h

past_styles : (n : ℕ) → row_count ≤ n → style_at n ≡ style 0 "" []
unfolding style_at styles
past_styles n h = get_or-eq_default styles (style 0 "" []) h

past_table : (n : ℕ) → row_count ≤ n → get_or style_table n 0 ≡ 0
unfolding style_table
past_table n h = get_or-eq_default style_table 0 h

agrees : (n : ℕ) (b : Bool) → T (agree (row_at n) (style_at n) (get_or style_table n 0) b)
unfolding agree_at
agrees n b = go (ltb n row_count) refl
  where
    go : (l : Bool) → ltb n row_count ≡ l → T (agree (row_at n) (style_at n) (get_or style_table n 0) b)
    go true e = at_every row_count (agree_at b) n (all_agree b) (ltb-true n row_count e)
    go false e = let h = ltb-false n row_count e in rw (past_rows n h, past_styles n h, past_table n h) (none_agree b)

-- a row's pieces print the text

number_by : (b : Bool) (k : ℕ) → hex (pick b 1 0) k ≡ pick b (hex 1 k) []
unfolding pick spelled
number_by true k = refl
number_by false k = refl

number_text_lem : (p : Part) (k : ℕ) → hex (pick (is p byte) 1 0) k ≡ number_text p k
unfolding number_text
number_text_lem p k = number_by (is p byte) k

row_print : (c : Config) (i : Instruction) → print (row_pieces (row_at i.row) (style_at i.row) (eqb i.flag 0)) (part_of i) ≡ text_of c i
unfolding row_pieces text_of pieces_of flag_text part_of
row_print c i =
    rw (number_text_lem (row_at i.row).number i.number)
    (sym (append_assoc (quoted (style_at i.row).name) (number_text (row_at i.row).number i.number) _))

-- a packed style's pieces print what code prints

offset_print : (w d : ℕ) (g : Column → ℕ) → g DESTINATION ≡ d → print (offset_digits w) g ≡ hex w (16 * d)
unfolding spelled digit pick
offset_print zero d g e = refl
offset_print (suc w) d g e =
    let q : 16 * d / 16 ≡ d = omega arith in
    let m : 16 * d % 16 ≡ 0 = omega arith in
    rw (q, m, e)

part_print : (w k : ℕ) (i : Instruction) → print (part_digits w k) (part_of i) ≡ hex w (shown_part k i)
unfolding part_digits part_of shown_part
part_print w zero i = append-nil (hex w 0)
part_print w (suc zero) i = append-nil (hex w i.destination)
part_print w (suc (suc zero)) i = append-nil (hex w i.source)
part_print w (suc (suc (suc zero))) i = append-nil (hex w i.value)
part_print w (suc (suc (suc (suc zero)))) i = offset_print w i.destination (part_of i) refl
part_print w (suc (suc (suc (suc (suc k))))) i = append-nil (hex w 0)

packed_print : (p : ℕ) (i : Instruction) → print (packed_pieces p (eqb i.flag 0)) (part_of i) ≡ style_text p i
unfolding packed_pieces style_text last_mark spelled part_of
packed_print p i =
    rw (
      print_append,
      print_append,
      part_print (p / 0x100000 % 16) (p / 0x1000000 % 16) i,
      part_print (p / 0x1000000000 % 16) (p / 0x10000000000 % 16) i,
    )
    (simp append_assoc)

pub packed_text : (c : Config) (i : Instruction) → style_text (get_or style_table i.row 0) i ≡ text_of c i
unfolding agree
packed_text c i =
    let p = get_or style_table i.row 0 in
    let b = eqb i.flag 0 in
    sym (packed_print p i) ∙
    alike_print (packed_pieces p b) (row_pieces (row_at i.row) (style_at i.row) b) (part_of i) (agrees i.row b) ∙
    row_print c i
