-- What comes of a source, by the answers of the two calls. Assumes nothing.
use Prim.Native.Nat.{ℕ}
use mathlib.Core.Path.{◌≡◌}
use mathlib.Core.List.{List}
use native.Mathlib.Omega.{arith}
use borrow.Author.Tests.{ne_eqb}
use Rattle.std.specs.Prelude.{Result, Ok, Err}
use Rattle.laws.specs.Choice.{pick}
use Rattle.words.specs.declared.Config.{Config}
use Rattle.words.specs.declared.Refusal.TheVariants as word
use Rattle.words.specs.Answers.{refusal_number}
use Rattle.assembler.specs.Answers.{assembled_of, assemble_call}
use Rattle.assembler.specs.Errors.{error_number, error_line, line_or_0}
use Rattle.assembler.specs.declared.errors.AssembleError.{AssembleError}
use Rattle.assembler.specs.declared.errors.AssembleError.TheVariants.{Unlawful, TooMany, DoubledLabel, BadLine}
use Rattle.assembler.specs.declared.errors.LineError.TheVariants.{NotInForm, UnknownLabel, Refused}
use Rattle.image.specs.declared.Refusal.{Refusal}
use Rattle.image.specs.Answers.{number_of}
use Rattle.image.specs.Storing.{Store, store_of}
use Rattle.yam_asm.specs.Making.{made, made_of}

-- a refusal has a number
numbered : (e : AssembleError) → error_number e ≡ 0 → ⊥
unfolding refusal_number
numbered Unlawful z = absurd (omega arith)
numbered TooMany z = absurd (omega arith)
numbered (DoubledLabel k) z = absurd (omega arith)
numbered (BadLine k NotInForm) z = absurd (omega arith)
numbered (BadLine k UnknownLabel) z = absurd (omega arith)
numbered (BadLine k (Refused word.Unlawful)) z = absurd (omega arith)
numbered (BadLine k (Refused word.NoRow)) z = absurd (omega arith)
numbered (BadLine k (Refused word.Unavailable)) z = absurd (omega arith)
numbered (BadLine k (Refused word.OutOfRange)) z = absurd (omega arith)

module _ (c : Config) (source image file words : List ℕ) where
  pub refused : (e : AssembleError) → assembled_of (Err e) words ≡ assemble_call c source image →
      made (error_number e) (line_or_0 (error_line e)) file ≡ made_of c source image file
  unfolding made_of pick
  refused e a = rw (← a, ne_eqb (error_number e) 0 (numbered e))

  pub stored : (n : ℕ) → assembled_of (Ok n) words ≡ assemble_call c source image → (r : Result (Unit {0}) Refusal) (after : List ℕ) →
      ◌≡◌ {A = Store} (record { number = number_of r; file = after }) (store_of c words file) → made (number_of r) 0 after ≡ made_of c source image file
  unfolding made_of pick
  stored n a r after s = rw (← a, ← s)
