-- What is proved of reading and writing words beside the equations: the round trip both ways, and the table of classes. The public calls' contracts
-- cite these records, so that none can be dropped.
use Rattle.std.specs.Prelude.{ℕ, ◌+◌, ◌/◌, ◌<◌, ◌≡◌, ◌↔◌, List, [], ◌++◌, Result}
use Rattle.laws.specs.Test.{Member}
use Rattle.laws.specs.Choice.{pick}
use Rattle.laws.specs.Table.{values}
use Rattle.words.specs.declared.Config.{Config}
use Rattle.words.specs.declared.Instruction.{Instruction}
use Rattle.words.specs.declared.Refusal.{Refusal}
use Rattle.words.specs.Parts.{Part, flag, byte, coprocessor, is}
use Rattle.words.specs.Rows.{Row, row_count, row_at}
use Rattle.words.specs.Classes.{class_of, named}
use Rattle.words.specs.Words.{Read, Written, read_of, write_of}
use Rattle.words.specs.Answers.{reading_of, writing_of}

abbrev pub wrote : ℕ → Written
wrote w = record { number = 0; word = w }

abbrev pub understood : Instruction → Read
understood i = record { number = 0; instruction = i }

-- "Writing a word that was read gives that word"
abbrev pub ReadThenWrite : Type 0
ReadThenWrite = (c : Config) (w : ℕ) (i : Instruction) → w < 0x100000000 → read_of c w ≡ understood i → write_of c i ≡ wrote w

-- "reading one that was written gives that instruction"
abbrev pub WriteThenRead : Type 0
WriteThenRead = (c : Config) (i : Instruction) (w : ℕ) → write_of c i ≡ wrote w → read_of c w ≡ understood i

-- what `read_word` promises of its answer r
pub record Reads (c : Config) (w : ℕ) (r : Result Instruction Refusal) : Type 0 where
  pub answer : reading_of r ≡ read_of c w
  pub back : ReadThenWrite

-- what `write_word` promises of its answer r
pub record Writes (c : Config) (i : Instruction) (r : Result ℕ Refusal) : Type 0 where
  pub answer : writing_of r ≡ write_of c i
  pub back : WriteThenRead

-- how many numbers stand in bits 31-23 beside a row's base, by what its number part holds
abbrev pub numbers : Part → ℕ
numbers p = pick (is p byte) 4 (pick (is p coprocessor) 32 1)

-- the values of bits 31-23 in the words of a row
unfoldable pub keys : Row → List ℕ
keys r =
    let k = r.base / 0x800000 in
    let n = numbers r.number in
    values (λ m. k + m) 0 n ++ pick (is r.flag flag) (values (λ m. k + 8 + m) 0 n) []

-- The class of each key names exactly the rows whose words have it in bits 31-23.
abbrev pub ClassesExact : Type 0
ClassesExact = (k n : ℕ) → k < 512 → Member n (named (class_of k)) ↔ ((n < row_count) × Member k (keys (row_at n)))
