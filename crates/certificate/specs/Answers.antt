-- Document 01's number and values for each case of the check's answer.
use Rattle.std.specs.Prelude.{ℕ, Option, None, Some, Result, Ok, Err}
use Rattle.rules.specs.Check.{Answer, passed, refused, broken}
use Rattle.certificate.specs.declared.Rule.{Rule}
use Rattle.certificate.specs.declared.Rule.TheVariants as rule
use Rattle.certificate.specs.declared.Fault.{Fault}
use Rattle.certificate.specs.declared.Fault.TheVariants as fault

abbrev pub rule_number : Rule → ℕ
rule_number rule.Start = 1
rule_number rule.Limit = 2
rule_number rule.Word = 3
rule_number rule.Successor = 4
rule_number rule.Subroutine = 5
rule_number rule.Level = 6
rule_number rule.Mode = 7
rule_number rule.Port = 8

-- 0: no rule is broken
abbrev pub rule_of : Option Rule → ℕ
rule_of None = 0
rule_of (Some r) = rule_number r

abbrev pub fault_number : Fault → ℕ
fault_number fault.Unlawful = 1
fault_number fault.WrongLength = 2
fault_number (fault.Broken a r) = 17

unfoldable pub answer_of : Result ℕ Fault → Answer
answer_of (Ok l) = passed l
answer_of (Err fault.Unlawful) = refused 1
answer_of (Err fault.WrongLength) = refused 2
answer_of (Err (fault.Broken a r)) = broken a (rule_number r)
