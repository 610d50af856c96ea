-- What the program's functions promise: together, that the pages that they fill, joined, are `printed_of` of the file.
use Rattle.std.specs.Prelude.{ℕ, suc, ◌+◌, ◌≤◌, ◌<◌, ◌≡◌, List, [], ◌∷◌, ◌++◌, length, take, drop, Option, Some, None, IfSome, Result, Ok, Err, IfOk, IfErr}
use Rattle.laws.specs.Test.{Holds}
use Rattle.words.specs.Configs.{lawful}
use Rattle.files.specs.Counts.{IsPrefixLen}
use Rattle.words.specs.declared.Config.{Config}
use Rattle.image.specs.Loading.{load_of}
use Rattle.text.specs.Texts.{text_limit}
use Rattle.text.specs.Claims.{lines_to_end, line_frame}
use Rattle.yam_list.specs.declared.Printed.{Printed}
use Rattle.yam_list.specs.Printing.{word_limit, file_number, printed_of}
use Rattle.printing.specs.Numerals.{refusal_line}
use Rattle.opening.specs.declared.Refusal.{Refusal}
use Rattle.opening.specs.Opening.{file_limit, refusal_number, answer_number}

-- what is to come of a file that was loaded: from the line of an address on, or its refusal
unfoldable pub to_come : Result Config Refusal → List ℕ → ℕ → List ℕ
to_come (Ok c) image next = lines_to_end c (take c.imsize image) next
to_come (Err e) image next = refusal_line (refusal_number e)

-- past its last line: IM_SIZE, 0 of a refusal
abbrev pub size_of : Result Config Refusal → ℕ
size_of (Ok c) = c.imsize
size_of (Err e) = 0

-- a file that was loaded: the number of a refusal has one or two digits; else the configuration is lawful and its words are in the image
pub record Ready (l : Result Config Refusal) (image : List ℕ) : Type 0 where
  pub short : IfErr l (λ e. refusal_number e < 100)
  pub allowed : IfOk l (λ c. Holds (lawful c))
  pub held : IfOk l (λ c. c.imsize ≤ length image)

-- what is to come from the next line on, where there is more
abbrev pub come_from : (ℕ → List ℕ) → Option ℕ → List ℕ
come_from come (Some k) = come k
come_from come None = []

-- What a page promises, where `come` is what is to come from a line on and `end` is past the last line: the page's bytes, and where there is more what is to
-- come from the next line on, are what was to come. No other byte changes. With room for the longest line, more lines are left only after one was printed.
pub record Prints (come : ℕ → List ℕ) (end next : ℕ) (page : List ℕ) (r : Printed) (after : List ℕ) : Type 0 where
  pub joined : take r.bytes after ++ come_from come r.next ≡ come next
  pub fits : IsPrefixLen r.bytes after
  pub keeps : drop r.bytes after ≡ drop r.bytes page
  pub forward : text_limit + line_frame ≤ length page → IfSome r.next (λ k. (next < k) × (k < end))

-- a call of `print_page`: the page before it, its answer, and the page after it
pub record Turn : Type 0 where
  pub page : List ℕ
  pub answer : Printed
  pub after : List ℕ

-- a run of calls: each from the line that the one before it answered, until no more is to come
abbrev pub Turns : (ℕ → List ℕ) → ℕ → ℕ → List Turn → Type 0
Turns come end next [] = ⊥
Turns come end next (t ∷ []) = Prints come end next t.page t.answer t.after × (t.answer.next ≡ None)
Turns come end next (t ∷ u ∷ ts) =
    Prints come end next t.page t.answer t.after × ((k : ℕ) × (t.answer.next ≡ Some k) × Turns come end k (u ∷ ts))

abbrev pub joined_pages : List Turn → List ℕ
joined_pages [] = []
joined_pages (t ∷ ts) = take t.answer.bytes t.after ++ joined_pages ts

-- What is printed for a file hangs on no byte but the first 34,305, which are as many as the program reads.
abbrev pub CutOff : Type 0
CutOff = (f : List ℕ) → printed_of (take (suc file_limit) f) ≡ printed_of f

-- What `load_file` promises of its answer l and of the image after it: what is to come is what the file's bytes print, and so are the pages of a run, joined.
pub record Opens (f image : List ℕ) (l : Result Config Refusal) (after : List ℕ) : Type 0 where
  pub number : answer_number l ≡ file_number f
  pub loaded : after ≡ (load_of f image).image
  pub size : length after ≡ word_limit
  pub ready : Ready l after
  pub prints : to_come l after 0 ≡ printed_of f
  pub cut_off : CutOff
  pub pages : (ts : List Turn) → Turns (to_come l after) (size_of l) 0 ts → joined_pages ts ≡ printed_of f
