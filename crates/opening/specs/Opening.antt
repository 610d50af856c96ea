-- Opening an image file: loading it, and "past 34,304 bytes of input" 2.
use Rattle.std.specs.Prelude.{ℕ, ◌≤◌, ◌≡◌, ◌≢◌, List, leb, length, take, drop, Some, None, Result, Ok, Err, IfErr}
use Rattle.laws.specs.Choice.{pick}
use Rattle.words.specs.declared.Config.{Config}
use Rattle.image.specs.Loading.{Load, load_of, no_config}
use Rattle.image.specs.Answers.{refusal_number as load_refusal_number}
use Rattle.opening.specs.declared.Refusal.{Refusal}
use Rattle.opening.specs.declared.Refusal.TheVariants.{TooLong, Load as Unloaded}

-- "The programs hold 8,192 words": the bytes of the file of so many, 67 blocks of 512
abbrev pub file_limit : ℕ
file_limit = 34304

-- 2 for a longer file, else what loading it answers
unfoldable pub number_of : ℕ → ℕ → ℕ
number_of bytes number = pick (leb bytes file_limit) number 2

unfoldable pub open_of : List ℕ → List ℕ → Load
open_of f image =
    let l = load_of f image in
    record { number = number_of (length f) l.number; config = l.config; image = l.image }

-- the documents' number
abbrev pub refusal_number : Refusal → ℕ
refusal_number (TooLong c) = 2
refusal_number (Unloaded why) = load_refusal_number why

-- the number of an answer, 0 for a pass
abbrev pub answer_number : Result Config Refusal → ℕ
answer_number (Ok c) = 0
answer_number (Err e) = refusal_number e

-- the configuration beside a refusal: of a file past the limit that loads all the same; else zeros
abbrev pub refused_config : Refusal → Config
refused_config (TooLong (Some c)) = c
refused_config (TooLong None) = no_config
refused_config (Unloaded why) = no_config

-- the configuration of an answer
abbrev pub answer_config : Result Config Refusal → Config
answer_config (Ok c) = c
answer_config (Err e) = refused_config e

-- What a load answers and leaves: its number, which a refusal has and no pass, the configuration, beside a refusal too, and the image.
pub record Answers (l : Load) (r : Result Config Refusal) (after : List ℕ) : Type 0 where
  pub number : answer_number r ≡ l.number
  pub refused : IfErr r (λ e. refusal_number e ≢ 0)
  pub config : answer_config r ≡ l.config
  pub image : after ≡ l.image

-- r of the words are those that n says, all where it says more
pub record Counted (n : ℕ) (words : List ℕ) (r : ℕ) : Type 0 where
  pub within : r ≤ length words
  pub measured : r ≡ length (take r words)
  pub same : take r words ≡ take n words
  pub rest : drop r words ≡ drop n words
