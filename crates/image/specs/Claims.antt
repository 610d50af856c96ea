-- What the calls promise, and what is proved of the two together: a stored image loads back. The contracts cite these records.
use Rattle.std.specs.Prelude.{◌≡◌, ℕ, ◌<◌, ◌≤◌, List, ◌++◌, length, drop, slice_index, Result, ⊤}
use Rattle.words.specs.declared.Config.{Config}
use Rattle.image.specs.declared.Refusal.{Refusal}
use Rattle.image.specs.Answers.{number_of, load_answer}
use Rattle.image.specs.Loading.{Load, load_of}
use Rattle.image.specs.Storing.{Store, store_of}

-- "the loader writes all or nothing": an image slice that holds the words, with what it held beyond them
abbrev pub loaded : Config → List ℕ → List ℕ → Load
loaded c image before = record { number = 0; config = c; image = image ++ drop (length image) before }

-- the cells of a slice of 32-bit words
abbrev pub Words : List ℕ → Type 0
Words image = (i : ℕ) → slice_index image i < 0x100000000

-- A stored image loads back, into any slice that is long enough, to the same configuration and words.
abbrev pub StoreThenLoad : Type 0
StoreThenLoad =
    (c : Config) (image file before : List ℕ) → Words image → (store_of c image file).number ≡ 0 → length image ≤ length before →
    load_of (store_of c image file).file before ≡ loaded c image before

-- what `load` promises of its answer r and of what the image slice then holds
abbrev pub Loads : List ℕ → List ℕ → Result Config Refusal → List ℕ → Type 0
Loads file image r after = load_answer r after ≡ load_of file image

-- what `store` promises of its answer r and of what the buffer then holds
pub record Stores (c : Config) (image file : List ℕ) (r : Result ⊤ Refusal) (after : List ℕ) : Type 0 where
  pub answer : ◌≡◌ {A = Store} (record { number = number_of r; file = after }) (store_of c image file)
  pub back : StoreThenLoad
