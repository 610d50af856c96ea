-- What the program prints for the bytes of a file.
use Rattle.std.specs.Prelude.{ℕ, List, eqb, length}
use Rattle.laws.specs.Choice.{pick}
use Rattle.image.specs.File.{config_of, image_words}
use Rattle.image.specs.Loading.{load_number}
use Rattle.printing.specs.Numerals.{refusal_line}
use Rattle.opening.specs.Opening.{number_of}
use Rattle.text.specs.Claims.{lines_to_end}

-- the words that the program has room for
abbrev pub word_limit : ℕ
word_limit = 8192

-- 2 for a file past 34,304 bytes, else what loading it answers
unfoldable pub file_number : List ℕ → ℕ
file_number f = number_of (length f) (load_number f word_limit)

-- the bytes of the longest line of a refusal
abbrev pub refusal_bytes : ℕ
refusal_bytes = 11

-- the lines of the file's image, or the line of its refusal
unfoldable pub printed_of : List ℕ → List ℕ
printed_of f =
    let n = file_number f in
    let c = config_of f in
    pick (eqb n 0) (lines_to_end c (image_words f 0 c.imsize) 0) (refusal_line n)
