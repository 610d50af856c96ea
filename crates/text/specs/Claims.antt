-- What is proved of a listing beside the equation. The contract of `list` cites these, so that none can be dropped.
use Rattle.std.specs.Prelude.{ℕ, ◌+◌, ◌-◌, ◌≤◌, ◌<◌, ◌≡◌, List, [], ◌++◌, length, take, drop}
use Rattle.std.proofs.Math.Seq.{slice}
use Rattle.laws.specs.Test.{Holds}
use Rattle.words.specs.declared.Config.{Config}
use Rattle.words.specs.Configs.{lawful}
use Rattle.words.specs.Words.{read_of}
use Rattle.syntax.specs.Claims.{text_of_word}
use Rattle.text.specs.declared.listing.Listed.{Listed}
use Rattle.text.specs.Pages.{written}
use Rattle.text.specs.Texts.{text_limit, word_text}
use Rattle.text.specs.Lines.{lines_from, Listing, listing, list_of}
use Rattle.text.specs.Answers.{listed_of}

-- all lines from an address to the image's end
abbrev pub lines_to_end : Config → List ℕ → ℕ → List ℕ
lines_to_end c image first = lines_from c image first (length image - first)

-- what a listing from a place on printed
abbrev pub printed_from : ℕ → Listing → List ℕ
printed_from place r = slice place r.place r.page

-- The listing of an image from 0 on a page that is large enough is the concatenation of its lines.
abbrev pub ListsWhole : Type 0
ListsWhole =
    (c : Config) (image page : List ℕ) (place : ℕ) → Holds (lawful c) → length image ≡ c.imsize → place + length (lines_to_end c image 0) ≤ length page →
    list_of c image 0 page place ≡
    listing 0 (place + length (lines_to_end c image 0)) (length image) (written page place (lines_to_end c image 0))

-- A listing in two parts, the second from the answered address on a new page from place 0, prints what a listing in one prints: where the second part and
-- the one pass.
abbrev pub ListsInParts : Type 0
ListsInParts =
    (c : Config) (image : List ℕ) (first : ℕ) (page : List ℕ) (place : ℕ) (new wide : List ℕ) (from : ℕ) →
    let one = list_of c image first page place in
    let two = list_of c image one.next new 0 in
    let whole = list_of c image first wide from in
    two.number ≡ 0 → whole.number ≡ 0 → printed_from place one ++ printed_from 0 two ≡ printed_from from whole

-- Page by page: what a listing prints, and then the lines from the answered address on, are the lines from its first address on. Where it passes, none is left.
abbrev pub ListsOn : Type 0
ListsOn =
    (c : Config) (image : List ℕ) (first : ℕ) (page : List ℕ) (place : ℕ) → let r = list_of c image first page place in
    (printed_from place r ++ lines_to_end c image r.next ≡ lines_to_end c image first) × (r.number ≡ 0 → lines_to_end c image r.next ≡ [])

-- a line's bytes beside its text
abbrev pub line_frame : ℕ
line_frame = 17

-- A listing that 1 and 2 do not refuse, on a page with room for the longest line, passes, or prints a line or more and leaves one or more.
abbrev pub ListsForward : Type 0
ListsForward =
    (c : Config) (image : List ℕ) (first : ℕ) (page : List ℕ) (place : ℕ) → let r = list_of c image first page place in
    Holds (lawful c) → length image ≡ c.imsize → place + (text_limit + line_frame) ≤ length page → (r.number ≡ 0 → ⊥) →
    (first < r.next) × (r.next < length image)

-- Whatever a listing answers, the page's bytes before the place and after the last whole line are as they were; a place within the page stays within it.
abbrev pub ListsKeep : Type 0
ListsKeep =
    (c : Config) (image : List ℕ) (first : ℕ) (page : List ℕ) (place : ℕ) → let r = list_of c image first page place in
    (take place r.page ≡ take place page) × (drop r.place r.page ≡ drop r.place page) × (length r.page ≡ length page) ×
    (place ≤ length page → r.place ≤ length page)

-- For a word that can be read, what stands in a listing is its text: of these syntax's `ListedBack` speaks.
abbrev pub ListsTexts : Type 0
ListsTexts = (c : Config) (w : ℕ) → Holds (lawful c) → (read_of c w).number ≡ 0 → word_text c w ≡ text_of_word c w

-- what `list` promises of its answer r and of the page after it
pub record Lists (c : Config) (image : List ℕ) (first : ℕ) (page : List ℕ) (place : ℕ) (r : Listed) (after : List ℕ) : Type 0 where
  pub answer : listed_of r after ≡ list_of c image first page place
  pub whole : ListsWhole
  pub parts : ListsInParts
  pub on : ListsOn
  pub forward : ListsForward
  pub keeps : ListsKeep
  pub texts : ListsTexts
