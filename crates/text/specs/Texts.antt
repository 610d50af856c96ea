-- The text call, and what stands in a listing for a word: document 01, 'Listing and image file'. The text of an instruction is syntax's `text_of`.
use Rattle.std.specs.Prelude.{ℕ, ◌+◌, ◌/◌, ◌%◌, List, [], ◌∷◌, ◌++◌, eqb, ltb, length}
use Rattle.laws.specs.Choice.{pick}
use Rattle.laws.specs.Test.{most}
use Rattle.laws.specs.First.{first_failing}
use Rattle.words.specs.declared.Config.{Config}
use Rattle.words.specs.Configs.{lawful}
use Rattle.words.specs.Words.{read_lawful, read_of}
use Rattle.syntax.specs.Quoted.{quoted}
use Rattle.syntax.specs.Forms.{text_of}
use Rattle.text.specs.Pages.{written}

-- "instruction text longer than 20 bytes" (23)
abbrev pub text_limit : ℕ
text_limit = 20

-- The text call: 1, 5, 6, 7, then 18 and 23. What it answers, and the page then.
pub record Text : Type 0 where
  pub number : ℕ
  pub place : ℕ
  pub page : List ℕ

-- number n, with t printed where it is 0
unfoldable pub printed : ℕ → List ℕ → List ℕ → ℕ → Text
printed n t page place =
    pick (eqb n 0) (record { number = 0; place = place + length t; page = written page place t }) (record { number = n; place = place; page = page })

-- where reading answers r and the text is t: "listing page too small" (18), "instruction text longer than 20 bytes" (23)
unfoldable pub text_number : ℕ → List ℕ → ℕ → ℕ → ℕ
text_number r t size place =
    pick (eqb r 0) (first_failing ((18, most (place + length t) size) ∷ (23, most (length t) text_limit) ∷ [])) r

unfoldable pub text_call : Config → ℕ → List ℕ → ℕ → Text
text_call c w page place =
    let r = read_of c w in
    let t = text_of c r.instruction in
    printed (text_number r.number t (length page) place) t page place

-- What stands in a listing for the word: "text or "?" and the number"

-- a number below 100 in decimal
unfoldable pub decimal : ℕ → List ℕ
decimal n = pick (ltb n 10) ((n + 48) ∷ []) ((n / 10 + 48) ∷ (n % 10 + 48) ∷ [])

unfoldable pub refused_text : ℕ → List ℕ
refused_text n = quoted "?" ++ decimal n

-- the text t that was read with number r, on a page that has room
unfoldable pub shown_text : ℕ → List ℕ → List ℕ
shown_text r t = pick (eqb r 0) (pick (ltb text_limit (length t)) (refused_text 23) t) (refused_text r)

unfoldable pub word_text : Config → ℕ → List ℕ
word_text c w = let r = read_lawful c w in shown_text r.number (text_of c r.instruction)

-- what stands in a listing for the word, by itself: 1, then "listing page too small" (18)
unfoldable pub shown_call : Config → ℕ → List ℕ → ℕ → Text
shown_call c w page place =
    let t = word_text c w in
    printed (first_failing ((1, lawful c) ∷ (18, most (place + length t) (length page)) ∷ [])) t page place
