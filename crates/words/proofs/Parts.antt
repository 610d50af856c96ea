-- What code asks of a part's number is what is asked of the part.
-- Assumes nothing.
use Prim.Native.Nat.{ℕ, zero, suc, ◌/◌, ◌%◌, ◌<◌, ◌≤◌}
use mathlib.Core.Path.{◌≡◌, refl, ap, sym, ◌∙◌}
use mathlib.Core.Bool.{Bool, true, false, ◌&&◌}
use mathlib.Core.List.{List}
use lib.Dec.{ltb, eqb}
use lib.ListN.{get_or, get_or-eq_default}
use native.Mathlib.Omega.{arith}
use borrow.Author.Tests.{le-ltb, eq-eqb, ne_eqb}
use Rattle.laws.specs.Choice.{pick, is_false, true_is}
use Rattle.laws.specs.Lists.{column, column_at}
use Rattle.laws.specs.Table.{at_every, values, value_at}
use Rattle.laws.specs.Test.{Test, no?, ◌and◌, test, imp, Holds, holds}
use Rattle.words.specs.declared.Config.{Config}
use Rattle.words.specs.declared.Instruction.{Instruction}
use Rattle.words.specs.Parts.{Part, unused, flag, byte, coprocessor, register, unit, mask, immediate, read_address, write_address, target, count, bank_address, short, is, in_range, never, available}
use Rattle.words.specs.Kinds.{unsupported}
use Rattle.words.specs.Codes.{part_code, part_at, options, option_at}
use Rattle.words.specs.Rows.{Row, rows, no_row, row_at}
use Rattle.words.specs.Packed.{unpack, limit_of, limit_table, option_table, in_limit, fits_lent}
use Rattle.words.specs.Words.{flag_in, fits}
use Rattle.words.proofs.Checks.{alike, alike_is}

-- the lowest digit of a packed number
pub lowest_digit : (p : ℕ) → p / 1 % 16 ≡ p % 16
lowest_digit p = omega arith

pub unused_code : (d : ℕ) → d < 16 → is (part_at d) unused ≡ eqb d 0
unfolding part_at
unused_code d h = alike_is _ _ (at_every 16 (λ n. alike (is (part_at n) unused) (eqb n 0)) d tt h)

pub flag_code : (d : ℕ) → d < 16 → is (part_at d) flag ≡ eqb d 1
unfolding part_at
flag_code d h = alike_is _ _ (at_every 16 (λ n. alike (is (part_at n) flag) (eqb n 1)) d tt h)

pub target_code : (d : ℕ) → d < 16 → is (part_at d) target ≡ eqb d 10
unfolding part_at
target_code d h = alike_is _ _ (at_every 16 (λ n. alike (is (part_at n) target) (eqb n 10)) d tt h)

pub flag_there : (d k : ℕ) → d < 16 → d ≡ 1 → k / 8 % 2 ≡ flag_in (part_at d) k
unfolding flag_in pick
flag_there d k h e = rw (flag_code d h, eq-eqb d 1 e)

pub flag_absent : (d k : ℕ) → d < 16 → (d ≡ 1 → ⊥) → 0 ≡ flag_in (part_at d) k
unfolding flag_in pick
flag_absent d k h e = rw (flag_code d h, ne_eqb d 1 e)

count_code : (d : ℕ) → d < 16 → is (part_at d) count ≡ eqb d 11
unfolding part_at
count_code d h = alike_is _ _ (at_every 16 (λ n. alike (is (part_at n) count) (eqb n 11)) d tt h)

-- the range of a part is below its limit, but that a shift at level 0 is by 1

below_one : (v : ℕ) → ltb v 1 ≡ eqb v 0
below_one zero = refl
below_one (suc v) = rw (le-ltb (suc v) 1 (omega arith), ne_eqb (suc v) 0 (omega arith))

swapped : (a b : Bool) → a && b ≡ b && a
swapped true true = refl
swapped true false = refl
swapped false true = refl
swapped false false = refl

range_by : (c : Config) (p : Part) (v : ℕ) → imp (is p count && eqb c.alulevel 0) (eqb v 1) && ltb v (limit_of c p) ≡ test (in_range c p v)
unfolding in_range limit_of
range_by c unused v = below_one v
range_by c flag v = refl
range_by c byte v = refl
range_by c coprocessor v = refl
range_by c register v = refl
range_by c unit v = refl
range_by c mask v = refl
range_by c immediate v = refl
range_by c read_address v = refl
range_by c write_address v = refl
range_by c target v = refl
range_by c count v = swapped (imp (eqb c.alulevel 0) (eqb v 1)) (ltb v 16)
range_by c bank_address v = refl
range_by c short v = refl

pub range_code : (c : Config) (l : List ℕ) (d v : ℕ) → l ≡ limit_table c → d < 16 →
    imp (eqb d 11 && eqb c.alulevel 0) (eqb v 1) && ltb v (get_or l d 0) ≡ test (in_range c (part_at d) v)
unfolding limit_table
range_code c l d v e h = rw (e, value_at (λ n. limit_of c (part_at n)) 16 d 0 h, ← count_code d h) (range_by c (part_at d) v)

-- an option by its number, in an arm of the match and past them

pub option_moved : (c : Config) (n i : ℕ) (b : Bool) → n ≡ i → b ≡ test (available c (option_at i)) → b ≡ test (available c (option_at n))
option_moved c n i b e h = rw e h

pub option_past : (c : Config) (n : ℕ) → 10 ≤ n → false ≡ test (available c (option_at n))
unfolding available option_at
option_past c n h = sym (ap (λ o. test (available c o)) (get_or-eq_default options never h))

pub range_here : (c : Config) (l : List ℕ) (d v : ℕ) → l ≡ limit_table c → d < 16 → test (in_limit l c d v) ≡ test (in_range c (part_at d) v)
unfolding in_limit part_code
range_here c l d v e h = range_code c l d v e h

-- by lent tables

pub option_code : (c : Config) (l : List Bool) (d : ℕ) → l ≡ option_table c → d < 16 → get_or l d false ≡ test (available c (option_at d))
unfolding option_table available option_at
option_code c l d e h =
    let f : ℕ → Bool = λ n. test (available c (option_at n)) in
    rw e (column_at f (values (λ n. n) 0 16) d 16 ∙ ap f (value_at (λ n. n) 16 d 16 h))

-- a part that is no shift count is in its range where it is below its limit
plain_code : (c : Config) (l : List ℕ) (d v : ℕ) → l ≡ limit_table c → d < 16 → is (part_at d) count ≡ false → ltb v (get_or l d 0) ≡ test (in_range c (part_at d) v)
plain_code c l d v e h n = rw (sym (count_code d h) ∙ n) at (range_code c l d v e h)

-- of a row's parts only the value can be a shift count

abbrev pub plain : Row → Test
plain r = no? (is r.flag count) and no? (is r.number count) and no? (is r.destination count) and no? (is r.source count)

all_plain : column (λ r. test (plain r)) rows ≡ column (λ r. true) rows
unfolding rows
all_plain = refl

pub plain_at : (n : ℕ) → Holds (plain (row_at n))
unfolding row_at
plain_at n =
    holds (plain (row_at n))
    (true_is _ (sym (column_at (λ r. test (plain r)) rows n no_row) ∙ (ap (λ l. get_or l n true) all_plain ∙ column_at (λ r. true) rows n no_row)))

-- so the parts are in range where they are below their limits
pub fits_code : (c : Config) (l : List ℕ) (p : ℕ) (i : Instruction) → l ≡ limit_table c → Holds (plain (unpack 0 p unsupported)) →
    test (fits_lent l c p i) ≡ test (fits c (unpack 0 p unsupported) i)
unfolding fits_lent in_limit fits part_code
fits_code c l p i e t =
    rw (
      plain_code c l (p % 16) i.flag e (omega arith) (is_false _ t.0),
      plain_code c l (p / 0x10 % 16) i.number e (omega arith) (is_false _ t.1.0),
      plain_code c l (p / 0x100 % 16) i.destination e (omega arith) (is_false _ t.1.1.0),
      plain_code c l (p / 0x1000 % 16) i.source e (omega arith) (is_false _ t.1.1.1),
      range_code c l (p / 0x10000 % 16) i.value e (omega arith),
    )
