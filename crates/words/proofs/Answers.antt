-- From what the code computes to the answers of specs/Words.antt: one law for each function above the leaves.
-- Assumes nothing.
use Prim.Native.Nat.{ℕ, ◌/◌, ◌%◌, ◌<◌, ◌≤◌}
use mathlib.Core.Path.{◌≡◌, refl, ap, sym, ◌∙◌}
use mathlib.Core.Bool.{Bool, true, false}
use mathlib.Core.List.{List}
use native.Mathlib.Omega.{arith}
use lib.Dec.{T, eqb, eqb→eq}
use lib.ListN.{get_or}
use borrow.Author.Tests.{lt-ltb, le-ltb}
use Rattle.std.specs.Prelude.{Result, Ok, Err}
use Rattle.laws.specs.Choice.{pick, pick_yes, true_is}
use Rattle.laws.specs.Test.{test, Holds, tests, holds}
use Rattle.laws.specs.First.{first_failing}
use Rattle.words.specs.declared.Config.{Config}
use Rattle.words.specs.declared.Fields.{Fields}
use Rattle.words.specs.declared.Instruction.{Instruction}
use Rattle.words.specs.declared.Refusal.{Refusal}
use Rattle.words.specs.declared.Refusal.TheVariants.{Unlawful, NoRow, Unavailable, OutOfRange}
use Rattle.words.specs.Configs.{lawful}
use Rattle.words.specs.Parts.{available}
use Rattle.words.specs.Kinds.{unsupported}
use Rattle.words.specs.Codes.{option_at}
use Rattle.words.specs.Rows.{row_count, row_at}
use Rattle.words.specs.Classes.{class_of, row_of}
use Rattle.words.specs.Words.{fields_in, spread, gather, word_from, fits, refusals567, refusals, zeros, answered, parts_by, parts_of, read_by, read_lawful, read_of, written, word_of, write_lawful, write_of}
use Rattle.words.specs.Answers.{refusal_number, reading_of, writing_of, verdict_of, refusals_by}
use Rattle.words.specs.Packed.{unpack, no_packed, base_table, row_table, option_table, limit_table, row_lent, number_lent, parts_lent, read_lent, fits_lent, refusals_lent, write_lent}
use Rattle.words.specs.Claims.{Reads, Writes}
use Rattle.words.proofs.RoundTrip.{read_then_write, write_then_read, writable}
use Rattle.words.proofs.Packed.{row_lent_lem, base_at}
use Rattle.words.proofs.Parts.{option_code, plain, plain_at, fits_code}

-- a verdict handed on

refused_reading : (e : Refusal) (i : Instruction) → reading_of (Err e) ≡ answered (refusal_number e) i
unfolding reading_of refusal_number answered pick
refused_reading Unlawful i = refl
refused_reading NoRow i = refl
refused_reading Unavailable i = refl
refused_reading OutOfRange i = refl

refused_writing : (e : Refusal) (w : ℕ) → writing_of (Err e) ≡ written (refusal_number e) w
unfolding writing_of refusal_number written pick
refused_writing Unlawful w = refl
refused_writing NoRow w = refl
refused_writing Unavailable w = refl
refused_writing OutOfRange w = refl

pub read_refused : (n : ℕ) (e : Refusal) (i : Instruction) → verdict_of (Err e) ≡ n → reading_of (Err e) ≡ answered n i
unfolding verdict_of
read_refused n e i h = refused_reading e i ∙ ap (λ m. answered m i) h

pub read_passed : (n : ℕ) (u : Unit {0}) (i : Instruction) → verdict_of (Ok u) ≡ n → reading_of (Ok i) ≡ answered n i
unfolding verdict_of reading_of answered pick
read_passed n u i h = ap (λ m. answered m i) h

pub write_refused : (n : ℕ) (e : Refusal) (w : ℕ) → verdict_of (Err e) ≡ n → writing_of (Err e) ≡ written n w
unfolding verdict_of
write_refused n e w h = refused_writing e w ∙ ap (λ m. written m w) h

pub write_passed : (n : ℕ) (u : Unit {0}) (w : ℕ) → verdict_of (Ok u) ≡ n → writing_of (Ok w) ≡ written n w
unfolding verdict_of writing_of written pick
write_passed n u w h = ap (λ m. written m w) h

-- reading by lent tables, step by step
module _ (cs bs ps : List ℕ) (c : Config) (w n : ℕ) (row : n ≡ number_lent cs w) where
  pub by_tables : (p : ℕ) (i : Instruction) (there fit : Bool) → n < row_count → p ≡ get_or ps n no_packed → i ≡ parts_lent bs ps c n w →
      there ≡ test (available c (option_at (p / 0x100000 % 16))) → fit ≡ test (fits c (unpack 0 p unsupported) i) →
      answered (first_failing (refusals_by there fit)) i ≡ read_lent cs bs ps c w
  unfolding refusals_by read_lent read_by parts_by number_lent parts_lent row_lent refusals567 spread fields_in fits pick
  by_tables p i there fit l b d e f = rw (f, e, d, b, ← row, lt-ltb n row_count l)

  pub by_no_row : row_count ≤ n → reading_of (Err NoRow) ≡ read_lent cs bs ps c w
  unfolding reading_of refusal_number answered read_lent read_by parts_by number_lent row_lent refusals567 spread fields_in pick
  by_no_row h = rw (← row, le-ltb n row_count h)

-- the verdict by lent tables, step by step

module _ (ps : List ℕ) (os : List Bool) (ls : List ℕ) (c : Config) (i : Instruction) where
  pub by_verdict : (p : ℕ) (there fit : Bool) → i.row < row_count → p ≡ get_or ps i.row no_packed →
      there ≡ get_or os (p / 0x100000 % 16) false → fit ≡ test (fits_lent ls c p i) →
      first_failing (refusals_by there fit) ≡ first_failing (refusals_lent os ls c (get_or ps i.row no_packed) i)
  unfolding refusals_by refusals_lent pick
  by_verdict p there fit l b e f = rw (f, e, b, lt-ltb i.row row_count l)

  pub by_no_verdict : row_count ≤ i.row → verdict_of (Err NoRow) ≡ first_failing (refusals_lent os ls c (get_or ps i.row no_packed) i)
  unfolding verdict_of refusal_number refusals_lent pick
  by_no_verdict h = rw (le-ltb i.row row_count h)

-- where the configuration is lawful, 1 is passed over

pub lawful_read : (c : Config) (w : ℕ) → test (lawful c) ≡ true → read_lawful c w ≡ read_of c w
unfolding read_lawful read_of read_by parts_of refusals pick
lawful_read c w h = rw h

pub unlawful_read : (c : Config) (w : ℕ) → test (lawful c) ≡ false → read_of c w ≡ record { number = 1; instruction = zeros }
unfolding read_of refusals answered pick
unlawful_read c w h = rw h

lawful_write : (c : Config) (i : Instruction) → test (lawful c) ≡ true → write_lawful c i ≡ write_of c i
unfolding write_lawful write_of refusals pick
lawful_write c i h = rw h

pub unlawful_write : (c : Config) (i : Instruction) → test (lawful c) ≡ false → write_of c i ≡ record { number = 1; word = 0 }
unfolding write_of refusals written pick
unlawful_write c i h = rw h

-- what the two calls promise of a right answer

pub reads : (c : Config) (w : ℕ) (r : Result Instruction Refusal) → reading_of r ≡ read_of c w → Reads c w r
reads c w r e = record { answer = e; back = read_then_write }

pub writes : (c : Config) (i : Instruction) (r : Result ℕ Refusal) → writing_of r ≡ write_of c i → Writes c i r
writes c i r e = record { answer = e; back = write_then_read }

-- writing by lent tables, step by step
pub by_row : (bs ps : List ℕ) (os : List Bool) (ls : List ℕ) (c : Config) (i : Instruction) (base w : ℕ) (s : Fields) →
    base ≡ get_or bs i.row 0 → s ≡ gather c i → w ≡ word_from base s % 0x100000000 →
    written (first_failing (refusals_lent os ls c (get_or ps i.row no_packed) i)) w ≡ write_lent bs ps os ls c i
unfolding write_lent
by_row bs ps os ls c i base w s b g x = rw (x, g, b)

own_plain : (n : ℕ) → Holds (plain (row_lent base_table row_table n))
own_plain n = rw (row_lent_lem n) (plain_at n)

-- by this crate's rows and the configuration's own options and limits the verdict is document 01's
refused_alike : (ps : List ℕ) (os : List Bool) (ls : List ℕ) (c : Config) (i : Instruction) → ps ≡ row_table → os ≡ option_table c → ls ≡ limit_table c →
    first_failing (refusals_lent os ls c (get_or ps i.row no_packed) i) ≡ first_failing (refusals567 c (row_at i.row) i)
unfolding refusals_lent row_lent refusals567 fits
refused_alike ps os ls c i e o l =
    let p = get_or row_table i.row no_packed in
    rw (e, ← row_lent_lem i.row, option_code c os (p / 0x100000 % 16) o (omega arith), fits_code c ls p i l (own_plain i.row))

-- and the options and limits may as well be asked one by one
by_config : (c : Config) (i : Instruction) (p : ℕ) (there fit : Bool) → i.row < row_count → p ≡ get_or row_table i.row no_packed →
    there ≡ test (available c (option_at (p / 0x100000 % 16))) → fit ≡ test (fits_lent (limit_table c) c p i) →
    first_failing (refusals_by there fit) ≡ first_failing (refusals567 c (row_at i.row) i)
by_config c i p there fit l b e f =
    by_verdict row_table (option_table c) (limit_table c) c i p there fit l b (e ∙ sym (option_code c (option_table c) (p / 0x100000 % 16) refl (omega arith))) f ∙
    refused_alike row_table (option_table c) (limit_table c) c i refl refl refl

module _ (c : Config) (w n : ℕ) (row : n ≡ row_of (class_of (w / 0x800000)) (w % 0x800000)) where
  pub by_one : (ps : List ℕ) (p : ℕ) (i : Instruction) (there fit : Bool) → ps ≡ row_table → n < row_count → p ≡ get_or ps n no_packed → i ≡ parts_of c w →
      there ≡ test (available c (option_at (p / 0x100000 % 16))) → fit ≡ test (fits_lent (limit_table c) c p i) →
      answered (first_failing (refusals_by there fit)) i ≡ read_lawful c w
  unfolding read_lawful read_by parts_of parts_by spread fields_in
  by_one ps p i there fit o l b d e f =
      ap (λ m. answered m i) (by_config c i p there fit (rw (d, ← row) l) (rw (d, ← row, ← o) b) e f) ∙ rw d

  pub by_no_one : row_count ≤ n → reading_of (Err NoRow) ≡ read_lawful c w
  unfolding reading_of refusal_number answered read_lawful read_by parts_by refusals567 spread fields_in pick
  by_no_one h = rw (← row, le-ltb n row_count h)

-- so it reads as `read_lawful` does
pub by_own : (ps : List ℕ) (os : List Bool) (ls : List ℕ) (c : Config) (w : ℕ) (i : Instruction) → ps ≡ row_table → os ≡ option_table c → ls ≡ limit_table c →
    i ≡ parts_of c w → answered (first_failing (refusals_lent os ls c (get_or ps i.row no_packed) i)) i ≡ read_lawful c w
unfolding read_lawful read_by parts_of
by_own ps os ls c w i e o l h = rw (refused_alike ps os ls c i e o l, h)

-- a lawful configuration and a verdict of 0: the word fits
encodable : (c : Config) (i : Instruction) → Holds (lawful c) → first_failing (refusals567 c (row_at i.row) i) ≡ 0 → word_of c i < 0x100000000
unfolding refusals
encodable c i h z =
    writable c i (pick_yes (test (lawful c)) (first_failing (refusals567 c (row_at i.row) i)) 1 (tests (lawful c) h) ∙ z)

-- a word that fits where it is answered may be cut
cut : (b : Bool) (w : ℕ) → (T b → w < 0x100000000) → pick b (w % 0x100000000) 0 ≡ pick b w 0
unfolding pick
cut true w h = let q = h tt in omega arith
cut false w h = refl

-- with the tables and a lawful configuration it is writing, and no word is cut
pub write_lent_lem : (bases packs : List ℕ) (options : List Bool) (limits : List ℕ) (c : Config) (i : Instruction) →
    bases ≡ base_table → packs ≡ row_table → options ≡ option_table c → limits ≡ limit_table c → Holds (lawful c) →
    write_lent bases packs options limits c i ≡ write_lawful c i
unfolding write_lent write_lawful written word_of
write_lent_lem bases packs options limits c i b p o l h =
    let n = first_failing (refusals567 c (row_at i.row) i) in
    rw (refused_alike packs options limits c i p o l, b, base_at i.row)
    (ap (λ w. record { number = n; word = w }) (cut (eqb n 0) (word_of c i) (λ t. encodable c i h (eqb→eq n 0 t))))

-- what is answered so is what `write_word` promises
pub lent_writes : (bases packs : List ℕ) (options : List Bool) (limits : List ℕ) (c : Config) (i : Instruction) (r : Result ℕ Refusal) → test (lawful c) ≡ true →
    bases ≡ base_table → packs ≡ row_table → options ≡ option_table c → limits ≡ limit_table c →
    writing_of r ≡ write_lent bases packs options limits c i → Writes c i r
lent_writes bases packs options limits c i r h b p o l e =
    writes c i r (e ∙ (write_lent_lem bases packs options limits c i b p o l (holds (lawful c) (true_is _ h)) ∙ lawful_write c i h))
