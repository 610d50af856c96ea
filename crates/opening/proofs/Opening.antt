-- The limit on the file. Assumes nothing.
use Prim.Native.Nat.{ℕ, ◌<◌, ◌≤◌}
use mathlib.Core.Path.{◌≡◌, refl, sym, ap, ◌∙◌}
use mathlib.Core.List.{List}
use borrow.Author.Tests.{le-leb, lt-leb}
use lib.ListN.{length}
use Rattle.laws.specs.Choice.{pick}
use Rattle.std.proofs.Common.{Result, Ok, Err, Option}
use Rattle.std.specs.Result.{result_ok}
use Rattle.words.specs.declared.Config.{Config}
use Rattle.image.specs.declared.Refusal as unloaded
use Rattle.image.specs.Answers.{load_answer}
use Rattle.image.specs.Claims.{Loads}
use Rattle.image.specs.Loading.{Load as Loading}
use Rattle.image.proofs.Answers.{numbered}
use Rattle.opening.specs.declared.Refusal.TheVariants.{TooLong, Load}
use Rattle.opening.specs.Opening.{file_limit, number_of, open_of, refused_config, Answers}

too_long : (bytes n : ℕ) → file_limit < bytes → 2 ≡ number_of bytes n
unfolding number_of pick
too_long bytes n h = rw (lt-leb bytes file_limit h)

not_too_long : (bytes n : ℕ) → bytes ≤ file_limit → n ≡ number_of bytes n
unfolding number_of pick
not_too_long bytes n h = rw (le-leb bytes file_limit h)

image_left : (r : Result Config unloaded.Refusal) (after : List ℕ) → (load_answer r after).image ≡ after
unfolding load_answer
image_left (Ok c) after = refl
image_left (Err why) after = refl

config_left : (r : Result Config unloaded.Refusal) (after : List ℕ) → refused_config (TooLong (result_ok r)) ≡ (load_answer r after).config
unfolding load_answer
config_left (Ok c) after = refl
config_left (Err why) after = refl

module _ (f image after : List ℕ) where
  pub is_too_long : (r : Result Config unloaded.Refusal) (c : Option Config) → c ≡ result_ok r → Loads f image r after → file_limit < length f →
      Answers (open_of f image) (Err (TooLong c)) after
  unfolding open_of
  is_too_long r c e l h = record {
    number = too_long (length f) _ h;
    refused = λ k. cc;
    config = rw e (config_left r after) ∙ ap (λ (x : Loading). x.config) l;
    image = sym (image_left r after) ∙ ap (λ (x : Loading). x.image) l;
  }

  pub is_refused : (why : unloaded.Refusal) → Loads f image (Err why) after → length f ≤ file_limit → Answers (open_of f image) (Err (Load why)) after
  unfolding open_of load_answer
  is_refused why l h = record {
    number = ap (λ (x : Loading). x.number) l ∙ not_too_long (length f) _ h;
    refused = numbered why;
    config = ap (λ (x : Loading). x.config) l;
    image = ap (λ (x : Loading). x.image) l;
  }

  pub opens : (c : Config) → Loads f image (Ok c) after → length f ≤ file_limit → Answers (open_of f image) (Ok c) after
  unfolding open_of load_answer
  opens c l h = record {
    number = ap (λ (x : Loading). x.number) l ∙ not_too_long (length f) _ h;
    refused = tt;
    config = ap (λ (x : Loading). x.config) l;
    image = ap (λ (x : Loading). x.image) l;
  }
