-- Two computed tests tie the rows to the classes: every key finds a row that has it, and every row is found again. From here on no proof names a row.
-- Assumes nothing.
use Prim.Native.Nat.{ℕ, ◌+◌, ◌-◌, ◌*◌, ◌/◌, ◌%◌, ◌≤◌, ◌<◌}
use mathlib.Core.Path.{◌≡◌, refl}
use mathlib.Core.Bool.{Bool, true}
use native.Mathlib.Omega.{arith}
use lib.Dec.{T, ltb, lt→ltb}
use Rattle.laws.specs.Choice.{pick}
use Rattle.laws.specs.Test.{Test, less, most, same, yes?, if?, ◌and◌, test, Holds, holds}
use Rattle.laws.specs.Table.{every, at_every}
use Rattle.words.specs.declared.Config.{Config}
use Rattle.words.specs.Parts.{Part, unused, flag, byte, coprocessor, register, unit, mask, immediate, read_address, write_address, target, count, bank_address, short}
use Rattle.words.specs.Rows.{Row, rows, row_count, row_at}
use Rattle.words.specs.Classes.{class_of, Field, no_field, bits15_8, bit15, bit22, bits22_16, field_of, code_at, choices, row_in, row_of}
use Rattle.words.specs.Words.{flag_in, Layout, registers, upper_value, whole, layout_of, upper_in, lower_in, value_in}

-- bits 31-23 and 22-0 of a row's base
abbrev pub key : Row → ℕ
key r = r.base / 0x800000

abbrev pub code : Row → ℕ
code r = r.base % 0x800000

-- the weight of a field's lowest bit, and how many values the field has
abbrev lowest : Field → ℕ
lowest no_field = 0
lowest bits15_8 = 256
lowest bit15 = 32768
lowest bit22 = 0x400000
lowest bits22_16 = 65536

abbrev codes : Field → ℕ
codes no_field = 1
codes bits15_8 = 256
codes bit15 = 2
codes bit22 = 2
codes bits22_16 = 128

-- what the parts stay below in every lawful configuration, by what they hold
unfoldable pub most_of : Part → ℕ
most_of unused = 1
most_of flag = 2
most_of byte = 4
most_of coprocessor = 32
most_of register = 128
most_of unit = 64
most_of mask = 16
most_of immediate = 65536
most_of read_address = 65536
most_of write_address = 65536
most_of target = 0x800000
most_of count = 16
most_of bank_address = 65536
most_of short = 256

-- key k with code c is the key of its row with bit 26 and number as read, the number in its range, and the code is the row's
abbrev key_right : ℕ → Row → ℕ → ℕ → Test
key_right n r k c =
    if? (ltb n row_count)
    (most (key r + 8 * flag_in r.flag k) k and
    less (k - (key r + 8 * flag_in r.flag k)) (most_of r.number) and
    same (code r) (c * lowest (field_of (class_of k))))

abbrev keys_right : ℕ → Bool
keys_right k =
    every (codes (field_of (class_of k))) (λ c. test (key_right (row_in (class_of k) c) (row_at (row_in (class_of k) c)) k c))

all_keys : T (every 512 keys_right)
unfolding pick rows row_at class_of field_of choices row_in flag_in most_of
all_keys = tt

code_few : (s : Field) (f : ℕ) → f < 0x800000 → code_at s f < codes s
unfolding code_at
code_few no_field f h = omega arith
code_few bits15_8 f h = omega arith
code_few bit15 f h = omega arith
code_few bit22 f h = omega arith
code_few bits22_16 f h = omega arith

code_under : (s : Field) (f : ℕ) → code_at s f * lowest s ≤ f
unfolding code_at
code_under no_field f = omega arith
code_under bits15_8 f = omega arith
code_under bit15 f = omega arith
code_under bit22 f = omega arith
code_under bits22_16 f = omega arith

-- in the low 16 bits too
code_under_low : (s : Field) (f : ℕ) → code_at s f * lowest s % 65536 ≤ f % 65536
unfolding code_at
code_under_low no_field f = omega arith
code_under_low bits15_8 f = omega arith
code_under_low bit15 f = omega arith
code_under_low bit22 f = omega arith
code_under_low bits22_16 f = omega arith

-- row r stands in key k over bits f
pub record Stands-in (r : Row) (k f : ℕ) : Type 0 where
  pub key_most : key r + 8 * flag_in r.flag k ≤ k
  pub number_less : k - (key r + 8 * flag_in r.flag k) < most_of r.number
  pub code_most : code r ≤ f
  pub code_low : code r % 65536 ≤ f % 65536

-- what the test tells of one key and the bits below it
pub row_facts : (k f : ℕ) → k < 512 → f < 0x800000 → row_of (class_of k) f < row_count → Stands-in (row_at (row_of (class_of k) f)) k f
unfolding row_of
row_facts k f hk hf hr =
    let s = field_of (class_of k) in
    let c = code_at s f in
    let n = row_in (class_of k) c in
    let t = at_every (codes s) _ c (at_every 512 keys_right k all_keys hk) (code_few s f hf) in
    let p = holds (key_right n (row_at n) k c) t (lt→ltb n row_count hr) in
    record {
      key_most = p.0;
      number_less = p.1.0;
      code_most = omega (arith, p.1.1, code_under s f);
      code_low = rw p.1.1 (code_under_low s f);
    }

-- the fields of bits 22-0 add up to them
pub layout_sum : (s : Layout) (f : ℕ) → 65536 * upper_in s f + lower_in s f + value_in s f ≡ f
unfolding upper_in lower_in value_in
layout_sum registers f = omega arith
layout_sum upper_value f = omega arith
layout_sum whole f = omega arith

-- parts below Um, Lm and Vm leave the field that chooses the row, at e, as it is
abbrev field_test : Field → ℕ → ℕ → ℕ → ℕ → Test
field_test no_field e Um Lm Vm = yes? true
field_test bits15_8 e Um Lm Vm = less e 65536 and same (e % 256) 0 and most Lm 256 and most Vm 1
field_test bit15 e Um Lm Vm = less e 65536 and same (e % 32768) 0 and most Lm 32768 and most Vm 1
field_test bit22 e Um Lm Vm = same (e % 0x400000) 0 and most Um 64 and most Lm 65536 and most Vm 1
field_test bits22_16 e Um Lm Vm = same (e % 65536) 0 and most Um 1 and most Lm 1 and most Vm 1

-- and can be told apart
abbrev layout_test : Layout → ℕ → ℕ → ℕ → Test
layout_test registers Um Lm Vm = most Lm 65536 and most Vm 1
layout_test upper_value Um Lm Vm = most Lm 1 and most Vm 65536
layout_test whole Um Lm Vm = most Um 1 and most Lm 1

module _ (Um Lm Vm u l v : ℕ) (hu : u < Um) (hl : l < Lm) (hv : v < Vm) where
  pub field_back : (s : Field) (e : ℕ) → Holds (field_test s e Um Lm Vm) → code_at s (e + (65536 * u + l + v)) ≡ code_at s e
  unfolding code_at
  field_back no_field e t = refl
  field_back bits15_8 e t = omega arith
  field_back bit15 e t = omega arith
  field_back bit22 e t = omega arith
  field_back bits22_16 e t = omega arith

  pub layout_back : (s : Layout) → Holds (layout_test s Um Lm Vm) →
      (upper_in s (65536 * u + l + v) ≡ u) × (lower_in s (65536 * u + l + v) ≡ l) × (value_in s (65536 * u + l + v) ≡ v)
  unfolding upper_in lower_in value_in
  layout_back registers t = omega arith
  layout_back upper_value t = omega arith
  layout_back whole t = omega arith

-- row n with bit 26 at a and number m is found again
abbrev pub row_test : Config → ℕ → Row → ℕ → ℕ → Test
row_test c n r a m =
    let k = key r + 8 * a + m in
    let s = field_of (class_of k) in
    let Um = most_of r.destination in
    let Lm = most_of r.source in
    let Vm = most_of r.value in
    less k 512 and
    same (flag_in r.flag k) a and
    same (row_in (class_of k) (code_at s (code r))) n and
    field_test s (code r) Um Lm Vm and
    layout_test (layout_of c r.value) Um Lm Vm and
    less (code r + 65536 * Um + Lm + Vm) (0x800000 + 65538)

abbrev row_tests : Config → ℕ → Bool
row_tests c n =
    every (most_of (row_at n).flag) (λ a. every (most_of (row_at n).number) (λ m. test (row_test c n (row_at n) a m)))

all_rows : (c : Config) → T (every row_count (row_tests c))
unfolding pick rows row_at class_of field_of code_at choices row_in flag_in layout_of most_of
all_rows c = tt

pub row_found : (c : Config) (n a m : ℕ) → n < row_count → a < most_of (row_at n).flag → m < most_of (row_at n).number → Holds (row_test c n (row_at n) a m)
row_found c n a m hn ha hm =
    holds (row_test c n (row_at n) a m)
    (at_every (most_of (row_at n).number) _ m (at_every (most_of (row_at n).flag) _ a (at_every row_count (row_tests c) n (all_rows c) hn) ha) hm)
