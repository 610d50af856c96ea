-- What is proved of the check beside `Exact` and `Demand3`.
use Rattle.std.specs.Prelude.{ℕ, ◌<◌, ◌≤◌, ◌≡◌, List, T, get_or}
use Rattle.laws.specs.Test.{Test, most, yes?, ◌and◌, ◌or◌, Holds}
use Rattle.laws.specs.First.{Obeyed}
use Rattle.words.specs.declared.Config.{Config}
use Rattle.words.specs.Parts.{target, bank_address, is}
use Rattle.words.specs.Rows.{row_at}
use Rattle.words.specs.Words.{parts_of}
use Rattle.rules.specs.Marks.{mark_at, used}
use Rattle.rules.specs.Rules.{rules_at}
use Rattle.rules.specs.Check.{lowest, check_of}

-- "Answer 17 names the first address that breaks a rule by itself or its successors, and its lowest rule."
pub record FirstBroken (c : Config) (image certificate : List ℕ) (a rule : ℕ) : Type 0 where
  pub below : a < c.imsize
  pub before : (b : ℕ) → b < a → Obeyed (rules_at c image certificate b)
  pub breaks : Obeyed (rules_at c image certificate a) → ⊥
  pub lowest : rule ≡ lowest c image certificate a

abbrev pub NamesFirst : Type 0
NamesFirst =
    (c : Config) (image certificate : List ℕ) →
    (check_of c image certificate).number ≡ 17 →
    FirstBroken c image certificate (check_of c image certificate).address (check_of c image certificate).rule

-- word w has a direct JMP or JSR target, or a JSRWP address, at or above IM_SIZE
abbrev pub aims_outside : Config → ℕ → Test
aims_outside c w =
    let i = parts_of c w in
    let p = (row_at i.row).value in
    (yes? (is p target) or yes? (is p bank_address)) and most c.imsize i.value

-- K2: "rule 3, no longer rule 4, catches such a target": at a used address, 3 is the lowest rule that is broken, or 1 or 2 is.
abbrev pub CaughtBy3 : Type 0
CaughtBy3 =
    (c : Config) (image certificate : List ℕ) (a : ℕ) →
    T (used (mark_at certificate a)) →
    Holds (aims_outside c (get_or image a 0)) →
    (0 < lowest c image certificate a) × (lowest c image certificate a ≤ 3)
