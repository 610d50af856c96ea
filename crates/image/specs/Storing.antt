-- Writing an image file: the blocks of a configuration and an image, and what the call answers and leaves.
use Rattle.std.specs.Prelude.{◌≡◌, ℕ, zero, suc, ◌+◌, ◌*◌, ◌/◌, ◌%◌, ◌^◌, List, [], ◌∷◌, ◌++◌, length, ◌==◌, slice_index}
use Rattle.std.proofs.lemmas.List.Edits.{sets}
use Rattle.laws.specs.Choice.{pick}
use Rattle.laws.specs.Test.{Test, same}
use Rattle.laws.specs.First.{first_failing}
use Rattle.words.specs.declared.Config.{Config}
use Rattle.words.specs.Configs.{lawful}
use Rattle.image.specs.File.{words_of, total, checksum, blocks_for, file_size}

-- "little-endian words": the bytes of each word, the lowest first
unfoldable pub bytes_of : List ℕ → List ℕ
bytes_of [] = []
bytes_of (w ∷ ws) = w % 256 ∷ w / 256 % 256 ∷ w / 65536 % 256 ∷ w / 16777216 % 256 ∷ bytes_of ws

-- n of the words ws from word i on, "filled with zeros"
abbrev pub filled : List ℕ → ℕ → ℕ → List ℕ
filled ws i n = words_of (λ k. slice_index ws k) i n

-- "number from 0 (word 0); 126 words; check": block b, with the words ws from word i on
unfoldable pub block_of : ℕ → List ℕ → ℕ → List ℕ
block_of b ws i = let first = b ∷ filled ws i 126 in first ++ (checksum first ∷ [])

-- n blocks, from block b and word i on
unfoldable pub blocks_of : ℕ → List ℕ → ℕ → ℕ → List ℕ
blocks_of b ws i zero = []
blocks_of b ws i (suc n) = block_of b ws i ++ blocks_of (suc b) ws (i + 126) n

-- "Block 0 holds IM_SIZE, REG_WIDTH, ..", in the order of config_of
unfoldable pub head_of : Config → List ℕ
head_of c =
    c.imsize ∷
    c.regwidth ∷
    c.regsize ∷
    c.rmsize ∷
    c.pcstack ∷
    c.dmsize ∷
    c.dmpipe ∷
    c.alulevel ∷
    c.alumult ∷
    c.aluspr ∷
    c.iopif ∷
    c.ioprmw ∷
    c.yamclk ∷
    c.yamsreg3 ∷
    []

-- "Block 0 holds .., then zeros; the rest hold the image, filled with zeros"
unfoldable pub file_of : Config → List ℕ → List ℕ
file_of c image = bytes_of (block_of 0 (head_of c) 0 ++ blocks_of 1 image 0 (blocks_for c.imsize))

-- 1; 2 where the image is not IM_SIZE long; 19 where the buffer is not as long as the file
unfoldable pub store_tests : Config → ℕ → ℕ → List (ℕ × Test)
store_tests c words bytes = (1, lawful c) ∷ (2, same words c.imsize) ∷ (19, same bytes (file_size c.imsize)) ∷ []

-- what writing a file answers, and what the buffer then holds
pub record Store : Type 0 where
  pub number : ℕ
  pub file : List ℕ

-- the whole file, or on a refusal nothing
unfoldable pub store_of : Config → List ℕ → List ℕ → Store
store_of c image file =
    let number = first_failing (store_tests c (length image) (length file)) in
    record { number = number; file = pick (number == 0) (file_of c image) file }

-- what putting words at a place leaves: the bytes, and the sum with the words added
pub record Put (file : List ℕ) (place : ℕ) (ws : List ℕ) (sum r : ℕ) (after : List ℕ) : Type 0 where
  pub bytes : after ≡ sets file (place * 4) (bytes_of ws)
  pub added : r ≡ (sum + total ws) % 2 ^ 32
