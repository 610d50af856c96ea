-- The numbers that stand for parts, options, marks, forms and conditions in the tables that code holds. Nothing here is to be believed: a number that is read
-- back gives what it stands for. Written by tools/rows.
use Rattle.std.specs.Prelude.{ℕ, ◌+◌, List, [], ◌∷◌, get_or}
use Rattle.words.specs.declared.Form.{Form}
use Rattle.words.specs.declared.Form.TheVariants.{Signed, Unsigned, Shifted}
use Rattle.words.specs.Parts.{Part, unused, flag, byte, coprocessor, register, unit, mask, immediate, read_address, write_address, target, count, bank_address, short}
use Rattle.words.specs.Parts.{Option, always, mult, level1, level2, level2_memory, memory, ports, rmw, banks, spr, never}
use Rattle.words.specs.Kinds.{Condition, Z, NZ, GT, LT, GE, LE, BIO}
use Rattle.words.specs.Kinds.{Mark, goes_on, jumps, calls, returns, enters_mode, leaves_mode, reveals, reads_port, writes_port, loads, stores, by_register, enters_bank, leaves_bank, barred, by_index}

unfoldable pub part_code : Part → ℕ
part_code unused = 0
part_code flag = 1
part_code byte = 2
part_code coprocessor = 3
part_code register = 4
part_code unit = 5
part_code mask = 6
part_code immediate = 7
part_code read_address = 8
part_code write_address = 9
part_code target = 10
part_code count = 11
part_code bank_address = 12
part_code short = 13

abbrev pub parts : List Part
parts = unused ∷ flag ∷ byte ∷ coprocessor ∷ register ∷ unit ∷ mask ∷ immediate ∷ read_address ∷ write_address ∷ target ∷ count ∷ bank_address ∷ []

-- any other number is read as short
unfoldable pub part_at : ℕ → Part
part_at n = get_or parts n short

unfoldable pub option_code : Option → ℕ
option_code always = 0
option_code mult = 1
option_code level1 = 2
option_code level2 = 3
option_code level2_memory = 4
option_code memory = 5
option_code ports = 6
option_code rmw = 7
option_code banks = 8
option_code spr = 9
option_code never = 10

abbrev pub options : List Option
options = always ∷ mult ∷ level1 ∷ level2 ∷ level2_memory ∷ memory ∷ ports ∷ rmw ∷ banks ∷ spr ∷ []

-- any other number is read as never
unfoldable pub option_at : ℕ → Option
option_at n = get_or options n never

abbrev pub conditions : List Condition
conditions = BIO ∷ Z ∷ NZ ∷ GT ∷ LT ∷ GE ∷ LE ∷ []

-- the entries of rows that have no condition, or one that no configuration has, are not asked for it
unfoldable pub condition_at : ℕ → Condition
condition_at n = get_or conditions n BIO

unfoldable pub form_at : ℕ → Form
form_at n = get_or (Signed ∷ Unsigned ∷ []) n Shifted

unfoldable pub weight : Mark → ℕ
weight goes_on = 1
weight jumps = 2
weight calls = 4
weight returns = 8
weight enters_mode = 16
weight leaves_mode = 32
weight reveals = 64
weight reads_port = 128
weight writes_port = 256
weight loads = 512
weight stores = 1024
weight by_register = 2048
weight enters_bank = 4096
weight leaves_bank = 8192
weight barred = 16384
weight by_index = 32768

abbrev pub weights : List Mark → ℕ
weights [] = 0
weights (m ∷ ms) = weight m + weights ms
