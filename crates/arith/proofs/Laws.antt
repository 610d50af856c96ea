-- Operands that are words already, and operands cut to be words.
-- Assumes nothing.
use Rattle.std.proofs.Common.{◌≡◌, ℕ, ◌%◌, ◌^◌, ◌<◌, ◌≤◌, Bool, true, false, eqb, refl, ◌∙◌, mod-lt, mod-eq_of_lt, arith, pow_pos, eqb→eq}
use Rattle.laws.specs.Choice.{pick}
use Rattle.arith.specs.Width.{Words, one}
use Rattle.arith.specs.Alu.{Within}

-- w is the width v that is asked for
module _ {w v : ℕ} (e : w ≡ v) where
  pub within_words : {d s n : ℕ} → 8 ≤ w → w ≤ 32 → Within v d s n → Words w d s
  within_words p q h = record { width = record { least = p; most = q }; left = rw e h.left; right = rw e h.right }

  -- what is cut
  pub cut_within : {a b : ℕ} (x y n : ℕ) → a ≡ x % 2 ^ w → b ≡ y % 2 ^ w → Within v a b (n % 2)
  cut_within x y n p q = record { left = rw (p, e) (mod-lt x (pow_pos v)); right = rw (q, e) (mod-lt y (pow_pos v)); flag = omega arith }

  -- a word cut is the word
  pub cut_same : {a : ℕ} (x : ℕ) → a ≡ x % 2 ^ w → x < 2 ^ v → a ≡ x
  cut_same x p h = p ∙ mod-eq_of_lt (rw e h)

-- a flag read as a test is the flag
pub flag_same : (n : ℕ) → n ≤ 1 → one (eqb (n % 2) 1) ≡ n
unfolding one pick
flag_same n h = go (eqb (n % 2) 1) refl
  where
    go : (t : Bool) → eqb (n % 2) 1 ≡ t → one t ≡ n
    go true q = omega (arith, eqb→eq (n % 2) 1 (rw q tt))
    go false q = grind arith

pub ruleset operand_laws = (within_words, cut_same, flag_same)
