-- Double-length sums, computed: document 02, K8. Of the word operations at each width, of 64 words, and of whole steps.
use Rattle.std.specs.Prelude.{ℕ, ◌/◌, ◌%◌, ◌^◌, ◌≡◌, List, [], ◌∷◌, ◌++◌, get_or, replicate}
use Rattle.laws.specs.Lists.{column}
use Rattle.words.specs.declared.Config.{Config}
use Rattle.words.specs.declared.Operation.{Operation}
use Rattle.words.specs.declared.Form.TheVariants.{Signed}
use Rattle.words.specs.Kinds.{Operand, from_register, literal, compute}
use Rattle.arith.specs.Alu.{alu_of}
use Rattle.arith.specs.DoubleSums.{DoubleWord, double_word, number, Direction, adding, subtracting, on_low, on_high, both, high_word}
use Rattle.state.specs.State.{Env, State, env}
use Rattle.state.specs.ComesBack.{CarriesOut, after_step}
use Rattle.state.specs.DoubleSteps.{Totals, InARow}
use Rattle.starred.specs.Cases.{sized, core_at, around}

-- the two words of a number
abbrev pub split : ℕ → ℕ → DoubleWord
split w a = double_word (a / 2 ^ w) (a % 2 ^ w)

-- a sum or difference of two-word numbers: x, y, what the two operations make of them, and N
pub record Row : Type 0 where
  pub x : ℕ
  pub y : ℕ
  pub result : ℕ
  pub n : ℕ

abbrev pub row : ℕ → ℕ → ℕ → ℕ → Row
row x y result n = record { x = x; y = y; result = result; n = n }

-- the row of x and y at this width, by the word operations; N is 1 before, and the first takes no notice
abbrev pub made : ℕ → Direction → Row → Row
made w o r =
    let x = split w r.x in
    let y = split w r.y in
    row r.x r.y (number w (both w o x y 1)) (high_word w o x y 1).n

abbrev pub Adds : ℕ → List Row → Type 0
Adds w table = column (made w adding) table ≡ table

-- the same rows read backwards: result less y is x, and N is the same
abbrev pub backwards : Row → Row
backwards r = row r.result r.y r.x r.n

abbrev pub Subtracts : ℕ → List Row → Type 0
Subtracts w table = column (made w subtracting) (column backwards table) ≡ column backwards table

-- no carry; one from the low to the high words; one out of the high words; both, in two sums
abbrev pub at8 : List Row
at8 = row 0x1230 0x3440 0x4670 0 ∷ row 0x12f0 0x3420 0x4710 0 ∷ row 0xf010 0x2020 0x1030 1 ∷ row 0xf0f0 0x2020 0x1110 1 ∷ row 0xffff 0x0001 0x0000 1 ∷ []

abbrev pub at16 : List Row
at16 =
    row 0x00120034 0x45670089 0x457900bd 0 ∷
    row 0x0001ffff 0x00010001 0x00030000 0 ∷
    row 0x80000000 0x80000000 0x00000000 1 ∷
    row 0xfffff000 0x00002000 0x00001000 1 ∷
    row 0xffffffff 0xffffffff 0xfffffffe 1 ∷
    []

abbrev pub at32 : List Row
at32 =
    row 0x0123456789abcdef 0xfedcba9876543210 0xffffffffffffffff 0 ∷
    row 0x00000001ffffffff 0x0000000000000001 0x0000000200000000 0 ∷
    row 0x8000000000000005 0x8000000000000006 0x000000000000000b 1 ∷
    row 0xffffffff80000000 0x0000000080000001 0x0000000000000001 1 ∷
    row 0xffffffffffffffff 0x0000000000000001 0x0000000000000000 1 ∷
    []

-- Longer totals, the low word first: ADD, then ADDC again and again, each with N as the one before left it. The words, and N after the last.
abbrev pub chained : ℕ → Operation → Operation → List ℕ → List ℕ → ℕ → List ℕ
chained w this next [] ys n = n ∷ []
chained w this next (x ∷ xs) [] n = n ∷ []
chained w this next (x ∷ xs) (y ∷ ys) n = let r = alu_of w this x y n in r.value ∷ chained w next next xs ys r.n

-- 64 words of ones and 1: the carry goes through all of them; and back
abbrev pub ones : List ℕ
ones = replicate 64 0xffffffff

abbrev pub unit : List ℕ
unit = 1 ∷ replicate 63 0

abbrev pub LongSum : Type 0
LongSum = chained 32 (on_low adding) (on_high adding) ones unit 0 ≡ replicate 64 0 ++ (1 ∷ [])

abbrev pub LongDifference : Type 0
LongDifference = chained 32 (on_low subtracting) (on_high subtracting) (replicate 64 0) unit 0 ≡ ones ++ (1 ∷ [])

-- Whole steps: at address 0, in a bank of 16 registers, with N 1 before; a gauge total in %01 (high) and %00 (low), a height in %03 and %02
abbrev pub gauge : ℕ → Config
gauge width = sized 8 width 16 0 32

abbrev pub program : ℕ → ℕ → ℕ → Env
program width low high = env (gauge width) (low ∷ high ∷ replicate 6 0) []

abbrev pub start : ℕ → ℕ → ℕ → State
start w x y =
    let a = split w x in
    let b = split w y in
    around (gauge w) (core_at 0 0 1 0 0) (a.low ∷ a.high ∷ b.low ∷ b.high ∷ replicate 12 0)

-- the total in a state, N and Z
abbrev pub shown : ℕ → State → List ℕ
shown w s = number w (double_word (get_or s.registers 1 0) (get_or s.registers 0 0)) ∷ s.core.n ∷ s.core.z ∷ []

-- the claim's premise is met, and both steps leave this total, N and Z
pub record Pass (w : ℕ) (e : Env) (o : Direction) (l h : Operand) (s : State) (total n z : ℕ) : Type 0 where
  pub met : InARow e o l h s
  pub left : shown w (after_step e (after_step e s)) ≡ total ∷ n ∷ z ∷ []

-- both steps are carried out, and do not leave the two-word sum
pub record Stray (e : Env) (o : Direction) (l h : Operand) (s : State) : Type 0 where
  pub low : CarriesOut e (compute (on_low o) l) s
  pub high : CarriesOut e (compute (on_high o) h) (after_step e s)
  pub lost : Totals e s (after_step e s) o l h (after_step e (after_step e s)) → ⊥

-- ADD %00,%02,S and ADDC %01,%03,S; SUB %00,%02,S and SUBC %01,%03,S
abbrev pub sum_at : ℕ → Env
sum_at width = program width 0x40000002 0x48010003

abbrev pub difference_at : ℕ → Env
difference_at width = program width 0x30000002 0x50010003

-- ADD %00,#0001,S and ADDC %01,#0000
abbrev pub one_more : Env
one_more = program 16 0x42800001 0x4e810000

-- ADD %00,%02, which leaves N, and ADDC %01,%03,S
abbrev pub unflagged : Env
unflagged = program 16 0x44000002 0x48010003

-- ADD %00,%02,S and ADDC %01,%00,S, which reads the low sum
abbrev pub coinciding : Env
coinciding = program 16 0x40000002 0x48010000

pub record DoubleCases : Type 0 where
  pub adds_8 : Adds 8 at8
  pub adds_16 : Adds 16 at16
  pub adds_32 : Adds 32 at32
  pub subtracts_8 : Subtracts 8 at8
  pub subtracts_16 : Subtracts 16 at16
  pub subtracts_32 : Subtracts 32 at32
  pub long_sum : LongSum
  pub long_difference : LongDifference
  -- Z is that of the high word: 1 where the sum is 10 and the high word 0, 0 where the low word is 0
  pub sum_8 : Pass 8 (sum_at 8) adding from_register from_register (start 8 0xff20 0x00f0) 0x0010 1 1
  pub sum_16 : Pass 16 (sum_at 16) adding from_register from_register (start 16 0x0001ffff 0x00010001) 0x00030000 0 0
  pub sum_32 : Pass 32 (sum_at 32) adding from_register from_register (start 32 0x80000000ffffffff 0x8000000000000002) 0x0000000100000001 1 0
  pub difference_8 : Pass 8 (difference_at 8) subtracting from_register from_register (start 8 0x0010 0x00f0) 0xff20 1 0
  pub difference_16 : Pass 16 (difference_at 16) subtracting from_register from_register (start 16 0x00030000 0x00010001) 0x0001ffff 0 0
  pub difference_32 : Pass 32 (difference_at 32) subtracting from_register from_register (start 32 0 1) 0xffffffffffffffff 1 0
  -- the second leaves flags: N is still the low sum's carry
  pub immediate : Pass 16 one_more adding (literal Signed) (literal Signed) (start 16 0x0001ffff 0) 0x00020000 1 1
  pub lost_flag : Stray unflagged adding from_register from_register (start 16 0x00010001 0x00010001)
  pub lost_register : Stray coinciding adding from_register from_register (start 16 0x00010001 0x00010001)
