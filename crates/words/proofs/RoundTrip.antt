-- Writing what was read gives the word back, and reading what was written gives the instruction back (specs/Claims.antt).
-- Assumes nothing.
use Prim.Native.Nat.{ℕ, ◌+◌, ◌-◌, ◌*◌, ◌/◌, ◌%◌, ◌≤◌, ◌<◌}
use mathlib.Core.Path.{◌≡◌, refl, ap, ◌∙◌}
use mathlib.Core.Logic.{inr}
use mathlib.Core.List.{List}
use native.Mathlib.Omega.{arith}
use lib.Dec.{T, leb, leb→le, eqb}
use Rattle.laws.specs.Choice.{pick}
use Rattle.laws.specs.Test.{Holds, Member}
use Rattle.laws.specs.First.{first_failing, Numbered, obeyed}
use Rattle.laws.specs.Lists.{all, all_at}
use Rattle.words.specs.declared.Config.{Config}
use Rattle.words.specs.declared.Instruction.{Instruction}
use Rattle.words.specs.Configs.{lawful, widths, register_sizes, data_sizes}
use Rattle.words.specs.Parts.{Part, unused, flag, byte, coprocessor, register, unit, mask, immediate, read_address, write_address, target, count, bank_address, short, in_range}
use Rattle.words.specs.Rows.{Row, row_count, row_at}
use Rattle.words.specs.Classes.{class_of, field_of, row_in, row_of}
use Rattle.words.specs.Words.{layout_of, upper_in, lower_in, value_in, fields_in, word_from, spread, gather, fits, refusals567, refusals, zeros, answered, parts_by, parts_of, read_of, written, word_of, write_of}
use Rattle.words.specs.Claims.{wrote, understood, ReadThenWrite, WriteThenRead}
use Rattle.words.proofs.Keys.{key, code, row_facts, layout_sum, most_of, field_back, layout_back, row_found}

-- a word of a row is what its parts are written as
word_back : (c : Config) (w : ℕ) → w < 0x100000000 → (parts_of c w).row < row_count → word_of c (parts_of c w) ≡ w
unfolding word_of word_from gather parts_of parts_by spread fields_in
word_back c w hw hr =
    let k = w / 0x800000 in
    let f = w % 0x800000 in
    let r = row_at (row_of (class_of k) f) in
    let p = row_facts k f (omega arith) (omega arith) hr in
    omega (arith, p.key_most, p.code_most, layout_sum (layout_of c r.value) (f - code r))

-- instructions with the same parts are one

parts : ℕ → ℕ → ℕ → ℕ → ℕ → ℕ → Instruction
parts a b c d e f = record { row = a; flag = b; destination = c; source = d; number = e; value = f }

made : {a b c d e f a' b' c' d' e' f' : ℕ} →
    a ≡ a' → b ≡ b' → c ≡ c' → d ≡ d' → e ≡ e' → f ≡ f' → parts a b c d e f ≡ parts a' b' c' d' e' f'
made p q s t u v = cc

alike : (i j : Instruction) → i.row ≡ j.row → i.flag ≡ j.flag → i.destination ≡ j.destination → i.source ≡ j.source →
    i.number ≡ j.number → i.value ≡ j.value → i ≡ j
unfolding parts
alike i j a b c d e f = made a b c d e f

parts_at : (c : Config) (w k f n : ℕ) → w / 0x800000 ≡ k → w % 0x800000 ≡ f → row_of (class_of k) f ≡ n → parts_of c w ≡ spread c (fields_in c n (row_at n) k f)
unfolding parts_of parts_by
parts_at c w k f n p q s = rw (p, q, s)

-- the parts of a word are those that it was written from
module _
    (c : Config) (i : Instruction) (hn : i.row < row_count) (hf : i.flag < most_of (row_at i.row).flag)
    (hm : i.number < most_of (row_at i.row).number) (hu : i.destination < most_of (row_at i.row).destination)
    (hl : i.source < most_of (row_at i.row).source) (hv : i.value < most_of (row_at i.row).value) where
  word_fits : word_of c i < 0x100000000
  unfolding word_of word_from gather
  word_fits = let p = row_found c i.row i.flag i.number hn hf hm in omega arith

  parts_back : parts_of c (word_of c i) ≡ i
  unfolding word_of word_from gather spread fields_in row_of
  parts_back =
      let r = row_at i.row in
      let k = key r + 8 * i.flag + i.number in
      let g = 65536 * i.destination + i.source + i.value in
      let y = layout_of c r.value in
      let p = row_found c i.row i.flag i.number hn hf hm in
      let field = field_back _ _ _ _ _ _ hu hl hv (field_of (class_of k)) (code r) p.1.1.1.0 in
      let back = layout_back _ _ _ _ _ _ hu hl hv y p.1.1.1.1.0 in
      let rest : code r + g - code r ≡ g = omega arith in
      parts_at c (word_of c i) k (code r + g) i.row (omega arith) (omega arith)
      (ap (row_in (class_of k)) field ∙ p.1.1.0) ∙
      alike (spread c (fields_in c i.row r k (code r + g))) i refl p.1.0
      (ap (upper_in y) rest ∙ back.0)
      (ap (lower_in y) rest ∙ back.1)
      (omega (arith, p.1.0))
      (ap (value_in y) rest ∙ back.2)

-- what a lawful configuration bounds

most_member : (l : List ℕ) (n m : ℕ) → T (all (λ x. leb x m) l) → Member n l → n ≤ m
most_member l n m t h = leb→le n m (all_at (λ x. leb x m) l n t h)

pub record Bounds (c : Config) : Type 0 where
  pub image : c.imsize ≤ 32768
  pub width : c.regwidth ≤ 32
  pub registers : c.regsize ≤ 128
  pub memory : c.dmsize ≤ 32768

pub bounds : (c : Config) → Holds (lawful c) → Bounds c
unfolding lawful
bounds c h =
    record {
      image = h.0.1.1;
      width = most_member widths _ 32 tt h.1.0.0;
      registers = most_member register_sizes _ 128 tt h.1.0.1;
      memory = most_member data_sizes _ 32768 tt h.1.1.1.0.1.1.0;
    }

pub range_most : (c : Config) (p : Part) (v : ℕ) → Bounds c → Holds (in_range c p v) → v < most_of p
unfolding in_range most_of
range_most c unused v b h = omega arith
range_most c flag v b h = h
range_most c byte v b h = omega arith
range_most c coprocessor v b h = h
range_most c register v b h = omega arith
range_most c unit v b h = h
range_most c mask v b h = h
range_most c immediate v b h = h
range_most c read_address v b h = omega arith
range_most c write_address v b h = omega arith
range_most c target v b h = omega arith
range_most c count v b h = h.0
range_most c bank_address v b h = omega arith
range_most c short v b h = h

-- what it means that no test fails
pub record Stands (i : Instruction) : Type 0 where
  pub row : i.row < row_count
  pub flag : i.flag < most_of (row_at i.row).flag
  pub number : i.number < most_of (row_at i.row).number
  pub destination : i.destination < most_of (row_at i.row).destination
  pub source : i.source < most_of (row_at i.row).source
  pub value : i.value < most_of (row_at i.row).value

numbered : (c : Config) (r : Row) (i : Instruction) → Numbered (refusals c r i)
unfolding refusals refusals567
numbered c r i = (inr (omega arith), (inr (omega arith), (inr (omega arith), (inr (omega arith), tt))))

pub stands : (c : Config) (i : Instruction) → first_failing (refusals c (row_at i.row) i) ≡ 0 → Stands i
unfolding refusals refusals567 fits
stands c i e =
    let r = row_at i.row in
    let p = obeyed (refusals c r i) (numbered c r i) e in
    let b = bounds c p.0 in
    let f = p.1.1.1.0 in
    record {
      row = p.1.0;
      flag = range_most c r.flag _ b f.0;
      number = range_most c r.number _ b f.1.0;
      destination = range_most c r.destination _ b f.1.1.0;
      source = range_most c r.source _ b f.1.1.1.0;
      value = range_most c r.value _ b f.1.1.1.1;
    }

-- what an answer of number 0 tells

pub decoded : (n : ℕ) (i j : Instruction) → answered n i ≡ understood j → (n ≡ 0) × (i ≡ j)
unfolding answered pick
decoded n i j e =
    let z : n ≡ 0 = ap (λ r. r.number) e in
    let v : pick (eqb n 0) i zeros ≡ j = ap (λ r. r.instruction) e in
    (z, given n z v)
  where
    given : (m : ℕ) → m ≡ 0 → pick (eqb m 0) i zeros ≡ j → i ≡ j
    given m z v = rw z at v

encoded : (n w v : ℕ) → written n w ≡ wrote v → (n ≡ 0) × (w ≡ v)
unfolding written pick
encoded n w v e =
    let z : n ≡ 0 = ap (λ r. r.number) e in
    let u : pick (eqb n 0) w 0 ≡ v = ap (λ r. r.word) e in
    (z, given n z u)
  where
    given : (m : ℕ) → m ≡ 0 → pick (eqb m 0) w 0 ≡ v → w ≡ v
    given m z u = rw z at u

-- a word that is read is written back
pub read_then_write : ReadThenWrite
unfolding read_of write_of written pick
read_then_write c w i h e =
    let n = first_failing (refusals c (row_at (parts_of c w).row) (parts_of c w)) in
    let p = decoded n (parts_of c w) i e in
    let s = stands c (parts_of c w) p.0 in
    let b = word_back c w h s.row in
    simp (← p.1, p.0, b)

-- an instruction that is written is read back
pub write_then_read : WriteThenRead
unfolding read_of write_of answered pick
write_then_read c i w e =
    let n = first_failing (refusals c (row_at i.row) i) in
    let p = encoded n (word_of c i) w e in
    let s = stands c i p.0 in
    let b = parts_back c i s.row s.flag s.number s.destination s.source s.value in
    simp (← p.1, b, p.0)

-- a word that may be written has 32 bits
pub writable : (c : Config) (i : Instruction) → first_failing (refusals c (row_at i.row) i) ≡ 0 → word_of c i < 0x100000000
writable c i e =
    let s = stands c i e in
    word_fits c i s.row s.flag s.number s.destination s.source s.value
