-- Loading an image file: what is asked of it, in document 01's order, and what the call answers and leaves.
use Rattle.std.specs.Prelude.{ℕ, zero, suc, ◌+◌, ◌-◌, ◌*◌, ◌%◌, List, [], ◌∷◌, ◌++◌, length, drop, ◌==◌}
use Rattle.laws.specs.Choice.{pick}
use Rattle.laws.specs.Test.{Test, less, most, same, each, ◌and◌}
use Rattle.laws.specs.First.{first_failing}
use Rattle.words.specs.declared.Config.{Config}
use Rattle.words.specs.Configs.{lawful}
use Rattle.image.specs.File.{word_at, words_at, checksum, blocks_for, file_size, first_filling, config_of, image_words}

-- each word is below 1, so it is zero
abbrev pub zeros : List ℕ → Test
zeros ws = each 1 ws

-- "number from 0 (word 0); 126 words; check": 20 and 21 of block b
unfoldable pub block_tests : List ℕ → ℕ → List (ℕ × Test)
block_tests f b =
    (20, same (word_at f (b * 128)) b) ∷
    (21, same (word_at f (b * 128 + 127)) (checksum (words_at f (b * 128) 127))) ∷
    []

-- "each block 20, 21": n blocks from b on
unfoldable pub blocks_tests : List ℕ → ℕ → ℕ → List (ℕ × Test)
blocks_tests f b zero = []
blocks_tests f b (suc n) = block_tests f b ++ blocks_tests f (suc b) n

-- "length no positive multiple of 512 (19); block 0 by 20, 21, 22, 1"
unfoldable pub head_tests : List ℕ → List (ℕ × Test)
head_tests f =
    (19, less 0 (length f) and same (length f % 512) 0) ∷
    block_tests f 0 ++
    (22, zeros (words_at f first_filling (127 - first_filling))) ∷
    (1, lawful (config_of f)) ∷
    []

-- "length against block 0 and as few more as hold IM_SIZE words (19); slice (2); each block 20, 21; last filling 22": n is IM_SIZE, len the slice's length
unfoldable pub rest_tests : List ℕ → ℕ → ℕ → List (ℕ × Test)
rest_tests f n len =
    (19, same (length f) (file_size n)) ∷
    (2, most n len) ∷
    blocks_tests f 1 (blocks_for n) ++
    (22, zeros (image_words f n (blocks_for n * 126 - n))) ∷
    []

-- the number of the first test that fails; 0 where none does
unfoldable pub load_number : List ℕ → ℕ → ℕ
load_number f len = first_failing (head_tests f ++ rest_tests f (word_at f 1) len)

abbrev pub no_config : Config
no_config = record {
  imwidth = 0;
  imsize = 0;
  regwidth = 0;
  regsize = 0;
  rmsize = 0;
  pcstack = 0;
  dmsize = 0;
  dmpipe = 0;
  alulevel = 0;
  alumult = 0;
  aluspr = 0;
  iopif = 0;
  ioprmw = 0;
  yamclk = 0;
  yamsreg3 = 0;
  alu3op = 0;
  irqif = 0;
  copmsize = 0;
  yamdbg = 0;
}

-- what a load answers, and what the image slice then holds
pub record Load : Type 0 where
  pub number : ℕ
  pub config : Config
  pub image : List ℕ

-- "the loader writes all or nothing"; "beside its number a refusal answers zeros". What lies beyond IM_SIZE words stays
unfoldable pub load_of : List ℕ → List ℕ → Load
load_of f image =
    let n = word_at f 1 in
    let number = load_number f (length image) in
    pick (number == 0)
    (record { number = 0; config = config_of f; image = image_words f 0 n ++ drop n image })
    (record { number = number; config = no_config; image = image })
