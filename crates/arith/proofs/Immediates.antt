-- A 16-bit immediate cut to the width, from its form at 32 bits.
-- Assumes nothing.
use Rattle.std.proofs.Common.{◌≡◌, ℕ, ◌+◌, ◌-◌, ◌%◌, ◌^◌, ◌<◌, eqb, leb, refl, ap, ◌∙◌, arith}
use lib.Bits.{bit_xor}
use Rattle.laws.specs.Choice.{pick, either}
use Rattle.words.specs.declared.Form.TheVariants.{Signed, Unsigned}
use Rattle.arith.specs.Width.{bits}
use Rattle.arith.specs.Immediates.{extend_of, immediate_of}
use Rattle.arith.proofs.sums.Laws.{signed_code}

module _ (v : ℕ) (h : v < 65536) where
  abbrev signed : ℕ
  signed = pick (leb 32768 v) (v + 0xffff0000) v

  low8 : signed % 256 ≡ v % 256
  low8 = either (λ x. x % 256 ≡ v % 256) (leb 32768 v) (v + 0xffff0000) v (λ _. omega arith) (λ _. refl)

  low16 : signed % 65536 ≡ v % 65536
  low16 = either (λ x. x % 65536 ≡ v % 65536) (leb 32768 v) (v + 0xffff0000) v (λ _. omega arith) (λ _. refl)

  all32 : signed % 0x100000000 ≡ signed
  all32 = either (λ x. x % 0x100000000 ≡ x) (leb 32768 v) (v + 0xffff0000) v (λ _. omega arith) (λ _. omega arith)

  -- the signed form, at each width: bit 15 flipped, and 32,768 less at 32 bits
  pub signed_cut : (n : ℕ) → (bit_xor v 32768 + (2 ^ 32 - 32768)) % 2 ^ 32 % 2 ^ bits n ≡ immediate_of (bits n) Signed v
  unfolding bits extend_of immediate_of pick
  signed_cut n =
      ap (λ (x : ℕ). x % 2 ^ bits n) (signed_code v h)
      ∙ either (λ w. signed % 2 ^ w ≡ pick (eqb w 32) signed (v % 2 ^ w)) (eqb n 8) 8 (pick (eqb n 16) 16 32) (λ _. low8)
      (λ _. either (λ w. signed % 2 ^ w ≡ pick (eqb w 32) signed (v % 2 ^ w)) (eqb n 16) 16 32 (λ _. low16) (λ _. all32))

  -- the unsigned one
  pub unsigned_cut : (n : ℕ) → v % 2 ^ bits n ≡ immediate_of (bits n) Unsigned v
  unfolding bits extend_of immediate_of pick
  unsigned_cut n =
      either (λ w. v % 2 ^ w ≡ pick (eqb w 32) v (v % 2 ^ w)) (eqb n 8) 8 (pick (eqb n 16) 16 32) (λ _. refl)
      (λ _. either (λ w. v % 2 ^ w ≡ pick (eqb w 32) v (v % 2 ^ w)) (eqb n 16) 16 32 (λ _. refl) (λ _. omega arith))

pub ruleset immediate_laws = (signed_cut, unsigned_cut)
