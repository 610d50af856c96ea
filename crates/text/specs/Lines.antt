-- The listing of an image: document 01, 'Listing and image file'.
use Rattle.std.specs.Prelude.{ℕ, zero, suc, ◌+◌, ◌-◌, List, [], ◌∷◌, ◌++◌, leb, eqb, length, get_or}
use Rattle.laws.specs.Choice.{pick}
use Rattle.laws.specs.Test.{same, most}
use Rattle.laws.specs.First.{first_failing}
use Rattle.words.specs.declared.Config.{Config}
use Rattle.words.specs.Configs.{lawful}
use Rattle.syntax.specs.Digits.{hex}
use Rattle.syntax.specs.Quoted.{quoted}
use Rattle.text.specs.Pages.{written}
use Rattle.text.specs.Texts.{word_text}

-- "A line: address six digits, space, word eight, space, text or "?" and the number, newline."
unfoldable pub line_of : ℕ → ℕ → List ℕ → List ℕ
line_of a w t = hex 6 a ++ (quoted " " ++ (hex 8 w ++ (quoted " " ++ (t ++ quoted "\n"))))

unfoldable pub line_at : Config → List ℕ → ℕ → List ℕ
line_at c image a = let w = get_or image a 0 in line_of a w (word_text c w)

-- the lines of n addresses from a on
unfoldable pub lines_from : Config → List ℕ → ℕ → ℕ → List ℕ
lines_from c image a zero = []
lines_from c image a (suc n) = line_at c image a ++ lines_from c image (suc a) n

-- What a listing answers: document 01's number, the place reached, the next address; and the page then.
pub record Listing : Type 0 where
  pub number : ℕ
  pub place : ℕ
  pub next : ℕ
  pub page : List ℕ

abbrev pub listing : ℕ → ℕ → ℕ → List ℕ → Listing
listing number place next page = record { number = number; place = place; next = next; page = page }

-- whole lines of n addresses from a on, as long as each has room: "listing page too small for the next line" (18)
unfoldable pub listed : Config → List ℕ → List ℕ → ℕ → ℕ → ℕ → Listing
listed c image page place a zero = listing 0 place a page
listed c image page place a (suc n) =
    let t = line_at c image a in
    pick (leb (place + length t) (length page)) (listed c image (written page place t) (place + length t) (suc a) n) (listing 18 place a page)

-- 1, 2, and "A place beyond its page is 18", also where no line is left
unfoldable pub list_number : Config → ℕ → ℕ → ℕ → ℕ
list_number c words size place =
    first_failing ((1, lawful c) ∷ (2, same words c.imsize) ∷ (18, most place size) ∷ [])

-- "A listing goes from a given address to the image's end; from there or past it, no lines, and that address is the next." A refusal keeps the place
-- and the address that were given.
unfoldable pub list_of : Config → List ℕ → ℕ → List ℕ → ℕ → Listing
list_of c image first page place =
    let n = list_number c (length image) (length page) place in
    pick (eqb n 0) (listed c image page place first (length image - first)) (listing n place first page)
