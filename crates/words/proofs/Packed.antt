-- With the tables of specs/Packed.antt, what is read by lent tables is what is read: the packed rows are the rows.
-- Assumes nothing.
use Prim.Native.Nat.{ℕ, ◌/◌, ◌%◌, ◌<◌}
use mathlib.Core.Path.{◌≡◌, refl, ap, ◌∙◌, sym}
use mathlib.Core.List.{List}
use native.Mathlib.Omega.{arith}
use lib.ListN.{get_or}
use Rattle.std.specs.Prelude.{Result}
use Rattle.laws.specs.Lists.{column, column_at}
use Rattle.words.specs.declared.Config.{Config}
use Rattle.words.specs.declared.Instruction.{Instruction}
use Rattle.words.specs.declared.Refusal.{Refusal}
use Rattle.words.specs.Answers.{reading_of}
use Rattle.words.specs.Kinds.{unsupported, marks_of}
use Rattle.words.specs.Rows.{Row, rows, no_row, row_at}
use Rattle.words.specs.Classes.{none, class_of, row_of}
use Rattle.words.specs.Words.{fields_in, spread, parts_by, read_by, read_lawful}
use Rattle.words.specs.Packed.{packed, unpack, facts_in, no_packed, class_table, base_table, row_table, Tables, row_lent, number_lent, read_lent}
use Rattle.words.specs.Facts.{facts_for, facts_of}
use Rattle.words.specs.Codes.{part_code, part_at, option_code, option_at, weight}
use Rattle.words.proofs.ClassesExact.{class_at}

-- a row is in its packed number, past the table's end too

again : Row → Row
again r = unpack r.base (packed r) r.kind

all_back : column again rows ≡ rows
unfolding again rows packed part_code part_at option_code option_at marks_of weight
all_back = refl

back : (n : ℕ) → again (row_at n) ≡ row_at n
unfolding again row_at packed part_code part_at option_code option_at marks_of weight
back n = sym (column_at again rows n no_row) ∙ ap (λ l. get_or l n no_row) all_back

all_facts : column (λ r. facts_in (packed r)) rows ≡ column (λ r. facts_for r.kind) rows
unfolding rows packed part_code option_code marks_of weight facts_for
all_facts = refl

-- the table's numbers at n
pub base_at : (n : ℕ) → get_or base_table n 0 ≡ (row_at n).base
unfolding base_table row_at
base_at n = column_at (λ (r : Row). r.base) rows n no_row

packed_at : (n : ℕ) → get_or row_table n no_packed ≡ packed (row_at n)
unfolding row_table row_at packed part_code option_code marks_of weight
packed_at n = column_at packed rows n no_row

pub row_lent_lem : (n : ℕ) → row_lent base_table row_table n ≡ row_at n
unfolding row_lent again
row_lent_lem n = rw (base_at n, packed_at n) (back n)

facts_packed : (n : ℕ) → facts_in (get_or row_table n no_packed) ≡ facts_of n
unfolding row_at packed part_code option_code marks_of weight facts_for
facts_packed n =
    ap facts_in (packed_at n) ∙
    (sym (column_at (λ r. facts_in (packed r)) rows n no_row) ∙
    (ap (λ l. get_or l n (facts_for unsupported)) all_facts ∙ column_at (λ r. facts_for r.kind) rows n no_row))

-- reading asks the classes and rows only where it looks
same-reading : (f g : ℕ → ℕ) (r s : ℕ → Row) (c : Config) (w : ℕ) →
    f (w / 0x800000) ≡ g (w / 0x800000) → ((n : ℕ) → r n ≡ s n) → read_by f r c w ≡ read_by g s c w
unfolding read_by parts_by spread fields_in
same-reading f g r s c w e h = rw (e, h (row_of (g (w / 0x800000)) (w % 0x800000)))

pub lent : (c : Config) (w : ℕ) → w < 0x100000000 → read_lent class_table base_table row_table c w ≡ read_lawful c w
unfolding read_lent read_lawful
lent c w h =
    same-reading (λ k. get_or class_table k none) class_of (row_lent base_table row_table) row_at c w (class_at (w / 0x800000) (omega arith)) row_lent_lem

-- the row of a word by the table of classes
pub number_lent_lem : (w : ℕ) → w < 0x100000000 → number_lent class_table w ≡ row_of (class_of (w / 0x800000)) (w % 0x800000)
unfolding number_lent
number_lent_lem w h = ap (λ x. row_of x (w % 0x800000)) (class_at (w / 0x800000) (omega arith))

-- the same for callers that lend the tables
pub read_lent_lem : (cs bs ps : List ℕ) (c : Config) (w : ℕ) (r : Result Instruction Refusal) → Tables cs bs ps → w < 0x100000000 →
    reading_of r ≡ read_lent cs bs ps c w → reading_of r ≡ read_lawful c w
read_lent_lem cs bs ps c w r t h e = (rw (t.classes_right, t.bases_right, t.packs_right) at e) ∙ lent c w h

pub facts_in_lem : (packs : List ℕ) (p n : ℕ) → packs ≡ row_table → p ≡ get_or packs n no_packed → facts_in p ≡ facts_of n
facts_in_lem packs p n h q = rw (q, h) (facts_packed n)
