-- The search for the first address, one turn at a time, as a loop takes it, and the three answers of the check.
-- Assumes nothing.
use Prim.Native.Nat.{ℕ, suc, ◌+◌, ◌-◌, ◌<◌, ◌≤◌}
use mathlib.Core.Path.{◌≡◌, sym, ◌∙◌}
use mathlib.Core.Bool.{true, false, ◌&&◌, and-false}
use lib.Dec.{eqb}
use mathlib.Core.List.{List}
use native.Mathlib.Omega.{arith}
use borrow.Author.Tests.{eq-eqb, ne_eqb}
use lib.ListN.{length}
use Rattle.laws.specs.Choice.{pick}
use Rattle.laws.specs.Test.{test}
use Rattle.words.specs.declared.Config.{Config}
use Rattle.words.specs.Configs.{lawful}
use Rattle.certificate.specs.declared.Rule.{Rule}
use Rattle.certificate.specs.declared.Rule.TheVariants as rule
use Rattle.certificate.specs.Answers.{rule_number}
use Rattle.rules.specs.Marks.{mark_at, level_of}
use Rattle.rules.specs.Check.{Answer, passed, refused, broken, sized, lowest, first_broken, check_of}

-- a broken rule has a number
pub rule_above : (r : Rule) → rule_number r ≡ 0 → ⊥
rule_above rule.Start h = omega (arith, h)
rule_above rule.Limit h = omega (arith, h)
rule_above rule.Word h = omega (arith, h)
rule_above rule.Successor h = omega (arith, h)
rule_above rule.Subroutine h = omega (arith, h)
rule_above rule.Level h = omega (arith, h)
rule_above rule.Mode h = omega (arith, h)
rule_above rule.Port h = omega (arith, h)

-- both lists are as long as asked, or one is not
pub long_both : (i k n : ℕ) → i ≡ n → k ≡ n → (eqb i n && eqb k n) ≡ true
long_both i k n e d = rw (eq-eqb i n e, eq-eqb k n d)

pub short_left : (i k n : ℕ) → (i ≡ n → ⊥) → (eqb i n && eqb k n) ≡ false
short_left i k n h = rw (ne_eqb i n h)

pub short_right : (i k n : ℕ) → (k ≡ n → ⊥) → (eqb i n && eqb k n) ≡ false
short_right i k n h = rw (ne_eqb k n h) (and-false (eqb i n))

module _ (f : ℕ → ℕ) (p : Answer) (n a : ℕ) where
  pub turn_on : a < n → f a ≡ 0 → first_broken f p (n - a) a ≡ first_broken f p (n - (a + 1)) (a + 1)
  unfolding first_broken pick
  turn_on h e =
      let q : n - a ≡ suc (n - (a + 1)) = omega arith in
      let s : suc a ≡ a + 1 = omega arith in
      rw (q, ← s, eq-eqb (f a) 0 e)

  pub turn_off : a < n → (f a ≡ 0 → ⊥) → first_broken f p (n - a) a ≡ broken a (f a)
  unfolding first_broken pick
  turn_off h e =
      let q : n - a ≡ suc (n - (a + 1)) = omega arith in
      rw (q, ne_eqb (f a) 0 e)

  pub done : n ≤ a → first_broken f p (n - a) a ≡ p
  unfolding first_broken
  done h = let q : n - a ≡ 0 = omega arith in rw q

module _ (c : Config) (image certificate : List ℕ) where
  -- what is left of the search at address a
  abbrev pub left_at : ℕ → Answer
  left_at a = first_broken (lowest c image certificate) (passed (level_of (mark_at certificate 0))) (c.imsize - a) a

  pub begins : first_broken (lowest c image certificate) (passed (level_of (mark_at certificate 0))) c.imsize 0 ≡ left_at 0
  begins = let z : c.imsize - 0 ≡ c.imsize = omega arith in rw z

  pub goes_on : (a : ℕ) → a < c.imsize → lowest c image certificate a ≡ 0 → left_at a ≡ left_at (a + 1)
  goes_on a = turn_on (lowest c image certificate) (passed (level_of (mark_at certificate 0))) c.imsize a

  pub stops : (a r : ℕ) → a < c.imsize → r ≡ lowest c image certificate a → (r ≡ 0 → ⊥) → broken a r ≡ left_at a
  stops a r h e n =
      rw e (sym (turn_off (lowest c image certificate) (passed (level_of (mark_at certificate 0))) c.imsize a h (λ z. n (e ∙ z))))

  pub passes : (a x : ℕ) → c.imsize ≤ a → x ≡ mark_at certificate 0 → passed (level_of x) ≡ left_at a
  passes a x h e = rw e (sym (done (lowest c image certificate) (passed (level_of (mark_at certificate 0))) c.imsize a h))

  pub unlawful : test (lawful c) ≡ false → refused 1 ≡ check_of c image certificate
  unfolding check_of pick
  unlawful e = rw e

  pub unsized : test (lawful c) ≡ true → test (sized c (length image) (length certificate)) ≡ false → refused 2 ≡ check_of c image certificate
  unfolding check_of pick
  unsized e d = rw (e, d)

  pub searched : test (lawful c) ≡ true → test (sized c (length image) (length certificate)) ≡ true →
      first_broken (lowest c image certificate) (passed (level_of (mark_at certificate 0))) c.imsize 0 ≡ check_of c image certificate
  unfolding check_of pick
  searched e d = rw (e, d)
