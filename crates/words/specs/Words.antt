-- Reading and writing a word: document 01, 'Words', and the refusals 1, 5, 6 and 7 in their order.
use Rattle.std.specs.Prelude.{ℕ, ◌+◌, ◌-◌, ◌*◌, ◌/◌, ◌%◌, List, [], ◌∷◌, eqb}
use Rattle.laws.specs.Choice.{pick}
use Rattle.laws.specs.Test.{Test, less, ◌and◌}
use Rattle.laws.specs.First.{first_failing}
use Rattle.words.specs.declared.Config.{Config}
use Rattle.words.specs.declared.Fields.{Fields}
use Rattle.words.specs.declared.Instruction.{Instruction}
use Rattle.words.specs.Configs.{lawful}
use Rattle.words.specs.Parts.{Part, unused, flag, target, is, in_range, available}
use Rattle.words.specs.Rows.{Row, row_count, row_at}
use Rattle.words.specs.Classes.{class_of, row_of}

-- Fields of a word

-- bit 26 of key k (bits 31-23), where the flag part holds p
unfoldable pub flag_in : Part → ℕ → ℕ
flag_in p k = pick (is p flag) (k / 8 % 2) 0

-- What stands in bits 22-0, the row's code taken off: two fields, an upper field and a value, or a value
-- alone (manual 5.17.1). The configuration is a parameter of the layout: ALU_3OP, off so far, changes it.
pub data Layout : Type 0 where
  registers upper_value whole : Layout

unfoldable pub layout_of : Config → Part → Layout
layout_of c v = pick (is v unused) registers (pick (is v target) whole upper_value)

unfoldable pub upper_in : Layout → ℕ → ℕ
upper_in registers f = f / 65536
upper_in upper_value f = f / 65536
upper_in whole f = 0

unfoldable pub lower_in : Layout → ℕ → ℕ
lower_in registers f = f % 65536
lower_in upper_value f = 0
lower_in whole f = 0

unfoldable pub value_in : Layout → ℕ → ℕ
value_in registers f = 0
value_in upper_value f = f % 65536
value_in whole f = f

-- the fields of a word of row n: k is bits 31-23, f bits 22-0
unfoldable pub fields_in : Config → ℕ → Row → ℕ → ℕ → Fields
fields_in c n r k f =
    let rest = f - r.base % 0x800000 in
    record {
      row = n;
      flag = flag_in r.flag k;
      number = k - (r.base / 0x800000 + 8 * flag_in r.flag k);
      upper = upper_in (layout_of c r.value) rest;
      lower = lower_in (layout_of c r.value) rest;
      value = value_in (layout_of c r.value) rest;
    }

-- the word that has these fields, over the row's base
unfoldable pub word_from : ℕ → Fields → ℕ
word_from base s = base + 0x4000000 * s.flag + 0x800000 * s.number + 65536 * s.upper + s.lower + s.value

-- From fields to the instruction's parts and back

unfoldable pub spread : Config → Fields → Instruction
spread c s =
    record {
      row = s.row;
      flag = s.flag;
      destination = s.upper;
      source = s.lower;
      number = s.number;
      value = s.value;
    }

unfoldable pub gather : Config → Instruction → Fields
gather c i =
    record {
      row = i.row;
      flag = i.flag;
      number = i.number;
      upper = i.destination;
      lower = i.source;
      value = i.value;
    }

-- The verdict on an instruction's parts, for reading and writing alike

unfoldable pub fits : Config → Row → Instruction → Test
fits c r i =
    in_range c r.flag i.flag and
    in_range c r.number i.number and
    in_range c r.destination i.destination and
    in_range c r.source i.source and
    in_range c r.value i.value

-- 5 "no row for the word, or for the parts to be written", 6 "row needs an option that is off", 7; r is the row that i names
unfoldable pub refusals567 : Config → Row → Instruction → List (ℕ × Test)
refusals567 c r i = (5, less i.row row_count) ∷ (6, available c r.option) ∷ (7, fits c r i) ∷ []

-- with 1 "configuration breaks the rules" before them
unfoldable pub refusals : Config → Row → Instruction → List (ℕ × Test)
refusals c r i = (1, lawful c) ∷ refusals567 c r i

-- Reading

-- What reading answers: document 01's number, 0 for a pass, and the instruction.
pub record Read : Type 0 where
  pub number : ℕ
  pub instruction : Instruction

abbrev pub zeros : Instruction
zeros = record { row = 0; flag = 0; destination = 0; source = 0; number = 0; value = 0 }

-- "Beside its number a refusal answers zeros"
unfoldable pub answered : ℕ → Instruction → Read
answered n i = record { number = n; instruction = pick (eqb n 0) i zeros }

-- the parts of word w, where class_by gives the class of bits 31-23 and row_by the row of a number
unfoldable pub parts_by : (ℕ → ℕ) → (ℕ → Row) → Config → ℕ → Instruction
parts_by class_by row_by c w =
    let k = w / 0x800000 in
    let f = w % 0x800000 in
    let n = row_of (class_by k) f in
    spread c (fields_in c n (row_by n) k f)

unfoldable pub parts_of : Config → ℕ → Instruction
parts_of c w = parts_by class_of row_at c w

unfoldable pub read_by : (ℕ → ℕ) → (ℕ → Row) → Config → ℕ → Read
read_by class_by row_by c w =
    let i = parts_by class_by row_by c w in
    answered (first_failing (refusals567 c (row_by i.row) i)) i

-- reading under a configuration that is known to be lawful: 5, 6, 7
unfoldable pub read_lawful : Config → ℕ → Read
read_lawful c w = read_by class_of row_at c w

-- reading: 1, 5, 6, 7
unfoldable pub read_of : Config → ℕ → Read
read_of c w = let i = parts_of c w in answered (first_failing (refusals c (row_at i.row) i)) i

-- Writing

-- What writing answers: document 01's number, 0 for a pass, and the word.
pub record Written : Type 0 where
  pub number : ℕ
  pub word : ℕ

unfoldable pub written : ℕ → ℕ → Written
written n w = record { number = n; word = pick (eqb n 0) w 0 }

unfoldable pub word_of : Config → Instruction → ℕ
word_of c i = word_from (row_at i.row).base (gather c i)

unfoldable pub write_lawful : Config → Instruction → Written
write_lawful c i = written (first_failing (refusals567 c (row_at i.row) i)) (word_of c i)

unfoldable pub write_of : Config → Instruction → Written
write_of c i = written (first_failing (refusals c (row_at i.row) i)) (word_of c i)
