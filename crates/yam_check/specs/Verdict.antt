-- What the program prints for an image file and a certificate (docs/commands.md, 'yam check').
use Rattle.std.specs.Prelude.{ℕ, List, ◌++◌, eqb, take}
use Rattle.laws.specs.Choice.{pick}
use Rattle.words.specs.declared.Config.{Config}
use Rattle.syntax.specs.Digits.{hex}
use Rattle.syntax.specs.Quoted.{quoted}
use Rattle.rules.specs.Check.{Answer, check_of}
use Rattle.printing.specs.Numerals.{decimal, refusal_line}
use Rattle.printing.specs.Entries.{entry_of}
use Rattle.opening.specs.Opening.{open_of}

-- "A pass prints `passes level L`, the level at address 0 in decimal."
unfoldable pub passes_line : ℕ → List ℕ
passes_line level = quoted "passes level " ++ (decimal level ++ quoted "\n")

-- "A broken rule prints two lines: `refused 17 address A rule R` with hex 6 and one digit, and the listing's line of that address."
unfoldable pub broken_lines : Config → List ℕ → ℕ → ℕ → List ℕ
broken_lines c image a rule =
    quoted "refused 17 address " ++ (hex 6 a ++ (quoted " rule " ++ (decimal rule ++ (quoted "\n" ++ (entry_of c image a ++ quoted "\n")))))

unfoldable pub verdict_text : Config → List ℕ → Answer → List ℕ
verdict_text c image a =
    pick (eqb a.number 0) (passes_line a.level)
    (pick (eqb a.number 17) (broken_lines c image a.address a.rule) (refusal_line a.number))

-- the file's own refusal, or what the check answers of its words; `image` is where they are loaded
unfoldable pub verdict_of : List ℕ → List ℕ → List ℕ → List ℕ
verdict_of f certificate image =
    let l = open_of f image in
    let c = l.config in
    let words = take c.imsize l.image in
    pick (eqb l.number 0) (verdict_text c words (check_of c words certificate)) (refusal_line l.number)
