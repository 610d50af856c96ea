-- The tables that code holds: the classes, the rows' bases, and the rows' other columns packed into one
-- number each. Nothing here is to be believed: proofs/Packed.antt ties it to Rows and Words.
use Rattle.std.specs.Prelude.{ℕ, ◌+◌, ◌*◌, ◌/◌, ◌%◌, ◌≡◌, Bool, false, ◌&&◌, List, [], ◌∷◌, eqb, get_or}
use Rattle.laws.specs.First.{first_failing}
use Rattle.laws.specs.Lists.{column}
use Rattle.laws.specs.Table.{values}
use Rattle.laws.specs.Test.{Test, less, most, same, isnt, among, each, yes?, no?, if?, ◌and◌, ◌or◌, test}
use Rattle.words.specs.declared.Config.{Config}
use Rattle.words.specs.declared.Instruction.{Instruction}
use Rattle.words.specs.declared.Facts.{Facts}
use Rattle.words.specs.Parts.{Part, count, in_range, available}
use Rattle.words.specs.Kinds.{Kind, marks_of}
use Rattle.words.specs.Codes.{part_code, part_at, option_code, option_at, weights}
use Rattle.words.specs.Rows.{Row, rows, row_count, row_at}
use Rattle.words.specs.Classes.{none, class_of, row_of}
use Rattle.words.specs.Words.{fields_in, spread, gather, word_from, Read, read_by, Written, written}

-- hex digits from the right: flag, number, destination, source, value, option; then the marks of the kind
unfoldable pub packed : Row → ℕ
packed r =
    part_code r.flag +
    0x10 * part_code r.number +
    0x100 * part_code r.destination +
    0x1000 * part_code r.source +
    0x10000 * part_code r.value +
    0x100000 * option_code r.option +
    0x1000000 * weights (marks_of r.kind)

-- the kind is not in the packed number: no code asks for it
abbrev pub unpack : ℕ → ℕ → Kind → Row
unpack base p kind =
    record {
      base = base;
      flag = part_at (p % 16);
      number = part_at (p / 0x10 % 16);
      destination = part_at (p / 0x100 % 16);
      source = part_at (p / 0x1000 % 16);
      value = part_at (p / 0x10000 % 16);
      option = option_at (p / 0x100000 % 16);
      kind = kind;
    }

-- whether the mark of weight u is among those packed in p
abbrev pub marked : ℕ → ℕ → Bool
marked u p = eqb (p / 0x1000000 / u % 2) 1

-- the facts in a row's packed number
abbrev pub facts_in : ℕ → Facts
facts_in p =
    record {
      next = marked 1 p;
      target = marked 2 p;
      calls = marked 4 p;
      returns = marked 8 p;
      enters = marked 16 p;
      leaves = marked 32 p;
      reveals = marked 64 p;
      input = marked 128 p;
      output = marked 256 p;
      load = marked 512 p;
      store = marked 1024 p;
      indirect = marked 2048 p;
      tobank = marked 4096 p;
      frombank = marked 8192 p;
      barred = marked 16384 p;
      index = marked 32768 p;
    }

-- what stands for a row past the table's end: noRow, packed
abbrev pub no_packed : ℕ
no_packed = 0xa00000

-- what a number stays below where a test holds: of the tests that ranges are made of
abbrev pub bound_in : Test → ℕ
bound_in (less v n) = n
bound_in (same v n) = n + 1
bound_in (p and q) = bound_in p
bound_in (most v n) = 0
bound_in (isnt v n) = 0
bound_in (among v l) = 0
bound_in (each n l) = 0
bound_in (yes? b) = 0
bound_in (no? b) = 0
bound_in (if? b p) = 0
bound_in (p or q) = 0

-- what a part in its range stays below
unfoldable pub limit_of : Config → Part → ℕ
limit_of c p = bound_in (in_range c p 0)

-- the same by the parts' numbers
unfoldable pub limit_table : Config → List ℕ
limit_table c = values (λ n. limit_of c (part_at n)) 0 16

-- whether the option that a number stands for is there
unfoldable pub option_table : Config → List Bool
option_table c = column (λ n. test (available c (option_at n))) (values (λ n. n) 0 16)

unfoldable pub class_table : List ℕ
class_table = values class_of 0 512

unfoldable pub base_table : List ℕ
base_table = column (λ (r : Row). r.base) rows

unfoldable pub row_table : List ℕ
row_table = column packed rows

-- the tables that are lent are these
pub record Tables (classes bases packs : List ℕ) : Type 0 where
  pub classes_right : classes ≡ class_table
  pub bases_right : bases ≡ base_table
  pub packs_right : packs ≡ row_table

-- the row of number n by lent tables
unfoldable pub row_lent : List ℕ → List ℕ → ℕ → Row
row_lent bases packs n = unpack (get_or bases n 0) (get_or packs n no_packed) (row_at n).kind

-- the row of word w by lent classes
unfoldable pub number_lent : List ℕ → ℕ → ℕ
number_lent classes w = row_of (get_or classes (w / 0x800000) none) (w % 0x800000)

-- the parts of word w, of row n, by lent tables
unfoldable pub parts_lent : List ℕ → List ℕ → Config → ℕ → ℕ → Instruction
parts_lent bases packs c n w = spread c (fields_in c n (row_lent bases packs n) (w / 0x800000) (w % 0x800000))

-- Reading by lent tables, whatever they hold. With the three tables above it is `read_lawful` (proofs/Packed.antt, `lent`).
unfoldable pub read_lent : List ℕ → List ℕ → List ℕ → Config → ℕ → Read
read_lent classes bases packs c w = read_by (λ k. get_or classes k none) (row_lent bases packs) c w

-- whether v is below the limit of the part of number d, and at level 0 a shift is by 1
unfoldable pub in_limit : List ℕ → Config → ℕ → ℕ → Test
in_limit limits c d v = if? (eqb d (part_code count) && eqb c.alulevel 0) (same v 1) and less v (get_or limits d 0)

-- whether the parts are below their limits, by what a row's packed number says that they hold; only the value is asked whether it is a shift
unfoldable pub fits_lent : List ℕ → Config → ℕ → Instruction → Test
fits_lent limits c p i =
    less i.flag (get_or limits (p % 16) 0) and
    less i.number (get_or limits (p / 0x10 % 16) 0) and
    less i.destination (get_or limits (p / 0x100 % 16) 0) and
    less i.source (get_or limits (p / 0x1000 % 16) 0) and
    in_limit limits c (p / 0x10000 % 16) i.value

-- refusals 5, 6 and 7 by lent tables
unfoldable pub refusals_lent : List Bool → List ℕ → Config → ℕ → Instruction → List (ℕ × Test)
refusals_lent options limits c p i =
    (5, less i.row row_count) ∷ (6, yes? (get_or options (p / 0x100000 % 16) false)) ∷ (7, fits_lent limits c p i) ∷ []

-- Writing by lent tables, whatever they hold: the word is cut to 32 bits, so that it is one whatever the configuration. With the four tables above
-- and a lawful configuration it is `write_lawful` (proofs/Answers.antt, `write_lent_lem`).
unfoldable pub write_lent : List ℕ → List ℕ → List Bool → List ℕ → Config → Instruction → Written
write_lent bases packs options limits c i =
    let r = refusals_lent options limits c (get_or packs i.row no_packed) i in
    written (first_failing r) (word_from (get_or bases i.row 0) (gather c i) % 0x100000000)
