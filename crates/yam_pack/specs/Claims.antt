-- What the program's functions promise on the way to its answer, where p is the page before and q the page after.
use Rattle.std.specs.Prelude.{ℕ, ◌≡◌, List, Result, MatchResult, length}
use Rattle.std.proofs.lemmas.List.Edits.{sets}
use Rattle.laws.specs.First.{first_failing}
use Rattle.words.specs.declared.Config.{Config}
use Rattle.image.specs.declared.Refusal.{Refusal}
use Rattle.image.specs.Answers.{refusal_number}
use Rattle.yam_pack.specs.declared.errors.PackError.{PackError}
use Rattle.yam_pack.specs.declared.errors.PackError.TheVariants.{TooLong, BadEntry, BadLine, Refused}
use Rattle.yam_pack.specs.Packing.{Packed, long, entry, line, refused, file, pack_tests, text_of}

-- the number of the first test that fails, 0 where none does
abbrev pub Passes : Config → ℕ → Result (Unit {0}) Refusal → Type 0
Passes c n r = MatchResult r (λ u. 0 ≡ first_failing (pack_tests c n)) (λ e. refusal_number e ≡ first_failing (pack_tests c n))

-- what comes of the texts where they give no file
abbrev pub error_of : PackError → Packed
error_of (TooLong n) = long n
error_of (BadEntry n) = entry n
error_of (BadLine n) = line n
error_of (Refused e) = refused (refusal_number e)

abbrev pub text_of_error : PackError → List ℕ
text_of_error e = text_of (error_of e)

-- a file stands on the page from its start on, so many bytes, and nothing else is written there; without a file nothing is written
abbrev pub Packs : Packed → List ℕ → Result ℕ PackError → List ℕ → Type 0
Packs x p r q = MatchResult r (λ n. (bytes : List ℕ) × (x ≡ file bytes) × (n ≡ length bytes) × (q ≡ sets p 0 bytes)) (λ e. (x ≡ error_of e) × (q ≡ p))
