-- What the check of a certificate answers, and the eight rules as propositions.
use Rattle.std.specs.Prelude.{ℕ, zero, suc, ◌<◌, ◌≡◌, List, eqb, length}
use Rattle.laws.specs.Choice.{pick}
use Rattle.laws.specs.Test.{Test, same, ◌and◌, test, Holds}
use Rattle.laws.specs.First.{first_failing, Obeyed}
use Rattle.words.specs.declared.Config.{Config}
use Rattle.words.specs.Configs.{lawful}
use Rattle.rules.specs.Marks.{mark_at, level_of}
use Rattle.rules.specs.Rules.{rules_at}

-- document 01's number, 0 for a pass; address and rule beside 17; the level at address 0 beside 0; zeros elsewhere
pub record Answer : Type 0 where
  pub number : ℕ
  pub address : ℕ
  pub rule : ℕ
  pub level : ℕ

abbrev pub passed : ℕ → Answer
passed l = record { number = 0; address = 0; rule = 0; level = l }

abbrev pub refused : ℕ → Answer
refused n = record { number = n; address = 0; rule = 0; level = 0 }

abbrev pub broken : ℕ → ℕ → Answer
broken a r = record { number = 17; address = a; rule = r; level = 0 }

-- 2: "image .. or sheet is not IM_SIZE .. long"
abbrev pub sized : Config → ℕ → ℕ → Test
sized c image certificate = same image c.imsize and same certificate c.imsize

-- the lowest rule that address a breaks; 0 for none
abbrev pub lowest : Config → List ℕ → List ℕ → ℕ → ℕ
lowest c image certificate a = first_failing (rules_at c image certificate a)

-- "the first address that breaks a rule by itself or its successors, and its lowest rule", of k addresses from a on, where f gives that rule; none: p
unfoldable pub first_broken : (ℕ → ℕ) → Answer → ℕ → ℕ → Answer
first_broken f p zero a = p
first_broken f p (suc k) a = pick (eqb (f a) 0) (first_broken f p k (suc a)) (broken a (f a))

-- "A pass answers the level at 0."
unfoldable pub check_of : Config → List ℕ → List ℕ → Answer
check_of c image certificate =
    pick (test (lawful c))
    (pick (test (sized c (length image) (length certificate)))
    (first_broken (lowest c image certificate) (passed (level_of (mark_at certificate 0))) c.imsize 0)
    (refused 2))
    (refused 1)

-- "the configuration is lawful, program and sheet are as long as it says, and the eight rules of document 01 hold"
pub record Passes (c : Config) (image certificate : List ℕ) : Type 0 where
  pub lawful : Holds (lawful c)
  pub image_long : length image ≡ c.imsize
  pub certificate_long : length certificate ≡ c.imsize
  pub rules : (a : ℕ) → a < c.imsize → Obeyed (rules_at c image certificate a)

-- "The check passes them exactly when": a pass tells the rules, and they make it pass, with the level at 0
pub record Exactly (c : Config) (image certificate : List ℕ) : Type 0 where
  pub sound : (check_of c image certificate).number ≡ 0 → Passes c image certificate
  pub complete : Passes c image certificate → check_of c image certificate ≡ passed (level_of (mark_at certificate 0))

abbrev pub Exact : Type 0
Exact = (c : Config) (image certificate : List ℕ) → Exactly c image certificate
