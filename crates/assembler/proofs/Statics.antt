-- The tables that stand in the code are those of specs/Packed.antt and specs/Heads.antt.
-- Assumes nothing.
use Prim.Native.Nat.{ℕ}
use mathlib.Core.List.{List}
use mathlib.Core.Path.{◌≡◌, refl, ap}
use lib.ListN.{get_or}
use Rattle.laws.specs.Choice.{pick}
use Rattle.words.specs.Rows.{rows, row_at}
use Rattle.syntax.specs.Digits.{spelled, digit}
use Rattle.syntax.specs.Styles.{styles, style_at}
use Rattle.syntax.specs.Forms.{number_text, flag_text, pieces_of, numbers_of, flags_of, forms_of, forms}
use Rattle.assembler.specs.declared.columns.TheConstants.{FORMS, LINKS, HEADS}
use Rattle.assembler.specs.Heads.{head_table, link_table}
use Rattle.assembler.specs.Packed.{entry_of, form_table}

forms_are : FORMS ≡ form_table
unfolding form_table entry_of forms forms_of pieces_of numbers_of flags_of number_text flag_text rows row_at styles style_at pick spelled digit
forms_are = refl

links_are : LINKS ≡ link_table
unfolding link_table
links_are = refl

heads_are : HEADS ≡ head_table
unfolding head_table
heads_are = refl

pub form_byte : (n : ℕ) → get_or FORMS n 0 ≡ get_or form_table n 0
form_byte n = ap (λ (t : List ℕ). get_or t n 0) forms_are

pub link : (n : ℕ) → get_or LINKS n 0 ≡ get_or link_table n 0
link n = ap (λ (t : List ℕ). get_or t n 0) links_are

pub head : (n : ℕ) → get_or HEADS n 0 ≡ get_or head_table n 0
head n = ap (λ (t : List ℕ). get_or t n 0) heads_are
