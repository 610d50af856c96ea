-- The image file: document 01, 'File'. A file is a list of bytes, read as words of four bytes.
use Rattle.std.specs.Prelude.{ℕ, ◌+◌, ◌*◌, ◌/◌, ◌%◌, ◌^◌, List, [], ◌∷◌, slice_index}
use Rattle.laws.specs.Table.{values}
use Rattle.words.specs.declared.Config.{Config}

-- "little-endian words": the word at place i. A byte past the end counts as 0
unfoldable pub word_at : List ℕ → ℕ → ℕ
word_at f i = slice_index f (i * 4) + slice_index f (i * 4 + 1) * 256 + slice_index f (i * 4 + 2) * 65536 + slice_index f (i * 4 + 3) * 16777216

-- n words from place i on, where g gives the word at a place
unfoldable pub words_of : (ℕ → ℕ) → ℕ → ℕ → List ℕ
words_of g i n = values g i n

abbrev pub words_at : List ℕ → ℕ → ℕ → List ℕ
words_at f i n = words_of (word_at f) i n

unfoldable pub total : List ℕ → ℕ
total [] = 0
total (w ∷ ws) = w + total ws

-- "check = sum of the first 127 words plus 512, mod 2^32"
unfoldable pub checksum : List ℕ → ℕ
checksum ws = (total ws + 512) % 2 ^ 32

-- "as few more as hold IM_SIZE words", of 126 each
abbrev pub blocks_for : ℕ → ℕ
blocks_for n = (n + 125) / 126

-- the bytes of a file of n image words: "block 0 and as few more as hold IM_SIZE words", of 512 bytes each
abbrev pub file_size : ℕ → ℕ
file_size n = blocks_for n * 512 + 512

-- the first word of block 0's filling; the generics of the words before it are in config_of and head_of
abbrev pub first_filling : ℕ
first_filling = 15

-- "Block 0 holds IM_SIZE, REG_WIDTH, REG_SIZE, RM_SIZE, PC_STACK, DM_SIZE, DM_PIPE, ALU_LEVEL, ALU_MULT, ALU_SPR, IOP_IF, IOP_RMW, YAM_CLK,
-- YAM_SREG3": the configuration in it. What it does not carry is as 'Configuration' fixes it
abbrev pub config_of : List ℕ → Config
config_of f = record {
  imwidth = 32;
  imsize = word_at f 1;
  regwidth = word_at f 2;
  regsize = word_at f 3;
  rmsize = word_at f 4;
  pcstack = word_at f 5;
  dmsize = word_at f 6;
  dmpipe = word_at f 7;
  alulevel = word_at f 8;
  alumult = word_at f 9;
  aluspr = word_at f 10;
  iopif = word_at f 11;
  ioprmw = word_at f 12;
  yamclk = word_at f 13;
  yamsreg3 = word_at f 14;
  alu3op = 0;
  irqif = 0;
  copmsize = 0;
  yamdbg = 0;
}

-- "the rest hold the image": the image's word i is word 1 + i % 126 of block 1 + i / 126
unfoldable pub image_word : List ℕ → ℕ → ℕ
image_word f i = word_at f ((1 + i / 126) * 128 + 1 + i % 126)

-- n words of the image from word i on
abbrev pub image_words : List ℕ → ℕ → ℕ → List ℕ
image_words f i n = words_of (image_word f) i n
