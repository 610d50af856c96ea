-- From what the code puts to the verdict. Assumes nothing.
use Prim.Native.Nat.{ℕ}
use mathlib.Core.Path.{◌≡◌}
use mathlib.Core.List.{List}
use borrow.Author.Tests.{ne_eqb}
use lib.ListN.{take}
use Rattle.std.proofs.Common.{Result, Ok, Err}
use Rattle.laws.specs.Choice.{pick}
use Rattle.words.specs.declared.Config.{Config}
use Rattle.certificate.specs.declared.Rule.{Rule}
use Rattle.certificate.specs.declared.Fault.{Fault}
use Rattle.certificate.specs.declared.Fault.TheVariants as fault
use Rattle.certificate.specs.Answers.{answer_of, rule_number}
use Rattle.rules.specs.Check.{Answer, check_of}
use Rattle.printing.specs.Numerals.{refusal_line}
use Rattle.printing.specs.declared.printer.Printer.{Printer}
use Rattle.printing.specs.Printers.{Prints}
use Rattle.opening.specs.declared.Refusal.{Refusal}
use Rattle.opening.specs.Opening.{open_of, refusal_number, Answers}
use Rattle.yam_check.specs.Verdict.{passes_line, broken_lines, verdict_text, verdict_of}

module _ {p q : Printer} (c : Config) (image : List ℕ) where
  pub passed_put : (x : Result ℕ Fault) (l : ℕ) → x ≡ Ok l → Prints p (passes_line l) q → Prints p (verdict_text c image (answer_of x)) q
  unfolding verdict_text answer_of pick
  passed_put x l e h = rw e h

  pub unlawful_put : (x : Fault) → x ≡ fault.Unlawful → Prints p (refusal_line 1) q → Prints p (verdict_text c image (answer_of (Err x))) q
  unfolding verdict_text answer_of pick
  unlawful_put x e h = rw e h

  pub misfit_put : (x : Fault) → x ≡ fault.WrongLength → Prints p (refusal_line 2) q → Prints p (verdict_text c image (answer_of (Err x))) q
  unfolding verdict_text answer_of pick
  misfit_put x e h = rw e h

  pub broken_put : (x : Fault) (a n : ℕ) (k : Rule) → x ≡ fault.Broken a k → n ≡ rule_number k → Prints p (broken_lines c image a n) q →
      Prints p (verdict_text c image (answer_of (Err x))) q
  unfolding verdict_text answer_of pick
  broken_put x a n k e d h = rw (e, ← d) h

module _ {p q : Printer} (f certificate image after : List ℕ) where
  pub refused_put : (e : Refusal) → Answers (open_of f image) (Err e) after → Prints p (refusal_line (refusal_number e)) q → Prints p (verdict_of f certificate image) q
  unfolding verdict_of pick
  refused_put e a h = rw (← a.number, ne_eqb (refusal_number e) 0 a.refused) h

  pub checked_put : (c : Config) → Answers (open_of f image) (Ok c) after → (words : List ℕ) → words ≡ take c.imsize after → (x : Answer) →
      x ≡ check_of c words certificate → Prints p (verdict_text c words x) q → Prints p (verdict_of f certificate image) q
  unfolding verdict_of pick
  checked_put c a words s x e h = rw (← a.number, ← a.config, ← a.image, ← s, ← e) h
