-- What comes of a CONFIG and a WORDS, and what the program prints: docs/commands.md, 'yam pack'.
use Rattle.std.specs.Prelude.{ℕ, List, [], ◌∷◌, ◌++◌, eqb, leb, length}
use Rattle.laws.specs.Choice.{pick}
use Rattle.laws.specs.Test.{Test, same, most}
use Rattle.laws.specs.First.{first_failing}
use Rattle.syntax.specs.Quoted.{quoted}
use Rattle.words.specs.declared.Config.{Config}
use Rattle.words.specs.Configs.{lawful}
use Rattle.image.specs.Storing.{file_of}
use Rattle.parsing.specs.Words.{Reading, good, bad, words_in}
use Rattle.parsing.specs.Generics.{Gathered, all, malformed, gathered_in, config_of}
use Rattle.printing.specs.Numerals.{decimal, refusal_line}

pub data Packed : Type 0 where
  long : ℕ → Packed  -- "malformed length N": a text above its N bytes
  entry : ℕ → Packed  -- "malformed entry N"
  line : ℕ → Packed  -- "malformed line N"
  refused : ℕ → Packed  -- "refused N"
  file : List ℕ → Packed  -- the bytes of the image file

abbrev pub config_bytes : ℕ
config_bytes = 4096

abbrev pub text_bytes : ℕ
text_bytes = 1048576

abbrev pub most_words : ℕ
most_words = 8192

-- "refused 1 for a configuration that breaks document 01's rules; refused 2 where there are not IM_SIZE words, or more than 8,192"
unfoldable pub pack_tests : Config → ℕ → List (ℕ × Test)
pack_tests c n = (1, lawful c) ∷ (2, same n c.imsize) ∷ (2, most n most_words) ∷ []

-- of n words, which are ws
unfoldable pub image_of : Config → ℕ → List ℕ → Packed
image_of c n ws = let number = first_failing (pack_tests c n) in pick (eqb number 0) (file (file_of c ws)) (refused number)

abbrev pub with_words : Config → Reading → Packed
with_words c (good ws) = image_of c (length ws) ws
with_words c (bad k) = line k

abbrev pub with_config : Gathered → List ℕ → Packed
with_config (all vs) text = pick (leb (length text) text_bytes) (with_words (config_of vs) (words_in text)) (long text_bytes)
with_config (malformed k) text = entry k

-- "In this order: CONFIG not in its form; WORDS not in its form; refused 1 ..; refused 2 .."
unfoldable pub packed_of : List ℕ → List ℕ → Packed
packed_of config text = pick (leb (length config) config_bytes) (with_config (gathered_in config) text) (long config_bytes)

-- what is printed: "a program prints one line and nothing else where a text is not in its form"; "the line `refused N`"; the file
unfoldable pub malformed_line : List ℕ → ℕ → List ℕ
malformed_line name n = name ++ (decimal n ++ quoted "\n")

unfoldable pub text_of : Packed → List ℕ
text_of (long n) = malformed_line (quoted "malformed length ") n
text_of (entry n) = malformed_line (quoted "malformed entry ") n
text_of (line n) = malformed_line (quoted "malformed line ") n
text_of (refused n) = refusal_line n
text_of (file bytes) = bytes

unfoldable pub printed_of : List ℕ → List ℕ → List ℕ
printed_of config text = text_of (packed_of config text)
