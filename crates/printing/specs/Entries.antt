-- A listing's line of an address, for the commands that show it.
use Rattle.std.specs.Prelude.{ℕ, ◌≡◌, ◌<◌, List, [], ◌++◌, length, get_or}
use Rattle.laws.specs.Choice.{pick}
use Rattle.laws.specs.Test.{test, Holds}
use Rattle.words.specs.declared.Config.{Config}
use Rattle.words.specs.Configs.{lawful}
use Rattle.syntax.specs.Digits.{hex}
use Rattle.syntax.specs.Quoted.{quoted}
use Rattle.text.specs.declared.errors.TextError.{TextError}
use Rattle.text.specs.declared.errors.TextError.TheVariants.{Unread, NoRoom, TooLong}
use Rattle.text.specs.Texts.{word_text}
use Rattle.text.specs.Lines.{line_at}

-- what stands in a listing for a word; a configuration that 1 refuses has no listing
unfoldable pub shown_word : Config → ℕ → List ℕ
shown_word c w = pick (test (lawful c)) (word_text c w) []

-- "the listing's line of the word without its newline"
unfoldable pub entry_of : Config → List ℕ → ℕ → List ℕ
entry_of c image a = let w = get_or image a 0 in hex 6 a ++ (quoted " " ++ (hex 8 w ++ (quoted " " ++ shown_word c w)))

-- that is what it is
abbrev pub EntryIsLine : Type 0
EntryIsLine = (c : Config) (image : List ℕ) (a : ℕ) → Holds (lawful c) → entry_of c image a ++ quoted "\n" ≡ line_at c image a

-- the place r after an error: beyond the page where it has no room, else the given place
abbrev pub IsAfterError : TextError → List ℕ → ℕ → ℕ → Type 0
IsAfterError NoRoom page at r = length page < r
IsAfterError (Unread x) page at r = r ≡ at
IsAfterError TooLong page at r = r ≡ at
