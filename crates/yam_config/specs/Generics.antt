-- What the program prints for an image file: docs/commands.md, 'yam config'.
use Rattle.std.specs.Prelude.{ℕ, zero, suc, Bool, List, [], ◌∷◌, ◌++◌, eqb, get_or, take}
use Rattle.laws.specs.Choice.{pick}
use Rattle.words.specs.declared.Config.{Config}
use Rattle.syntax.specs.Quoted.{quoted}
use Rattle.parsing.specs.Generics.{generic_count, names}
use Rattle.parsing.specs.Words.{printed}
use Rattle.printing.specs.Numerals.{decimal, refusal_line}
use Rattle.opening.specs.Opening.{open_of}

-- the values of the generics, in the order of parsing's `generics`
abbrev pub values_of : Config → List ℕ
values_of c =
    c.imsize ∷
    c.regwidth ∷
    c.regsize ∷
    c.rmsize ∷
    c.pcstack ∷
    c.dmsize ∷
    c.dmpipe ∷
    c.alulevel ∷
    c.alumult ∷
    c.aluspr ∷
    c.iopif ∷
    c.ioprmw ∷
    c.yamclk ∷
    c.yamsreg3 ∷
    c.alu3op ∷
    c.irqif ∷
    c.copmsize ∷
    c.imwidth ∷
    c.yamdbg ∷
    []

-- "a line `NAME=VALUE` each, VALUE in decimal"
unfoldable pub generic_line : List ℕ → ℕ → List ℕ
generic_line name v = name ++ (quoted "=" ++ (decimal v ++ quoted "\n"))

-- the lines of n generics from place k on
unfoldable pub lines_from : Config → ℕ → ℕ → List ℕ
lines_from c k zero = []
lines_from c k (suc n) = generic_line (get_or names k []) (get_or (values_of c) k 0) ++ lines_from c (suc k) n

unfoldable pub generics_text : Config → List ℕ
generics_text c = lines_from c 0 generic_count

-- the generics, or "with `--words`: its words, hex 8, one a line"; the file's refusal. `image` is where the words are loaded
unfoldable pub printed_of : Bool → List ℕ → List ℕ → List ℕ
printed_of asked f image =
    let l = open_of f image in
    let c = l.config in
    pick (eqb l.number 0) (pick asked (printed (take c.imsize l.image)) (generics_text c)) (refusal_line l.number)
