-- A direct target outside the image is caught by rule 3: such a word cannot be read.
-- Assumes nothing.
use Prim.Native.Nat.{ℕ, ◌<◌, ◌≤◌}
use mathlib.Core.Path.{◌≡◌}
use mathlib.Core.Bool.{Bool, true, false}
use native.Mathlib.Omega.{arith}
use lib.Dec.{T, eqb}
use lib.ListN.{get_or}
use Rattle.laws.specs.Choice.{pick}
use Rattle.laws.specs.Test.{if?, test, Holds, holds}
use Rattle.laws.specs.First.{numbered, obeyed}
use Rattle.words.specs.declared.Config.{Config}
use Rattle.words.specs.Rows.{row_at}
use Rattle.words.specs.Words.{fits, refusals567, answered, parts_of, read_by, read_lawful}
use Rattle.state.proofs.Stops.{a_target}
use Rattle.rules.specs.Marks.{mark_at, used}
use Rattle.rules.specs.Rules.{rule1, rule2, rule3, rules, read_at, facts_at}
use Rattle.rules.specs.Claims.{aims_outside, CaughtBy3}

unread : (c : Config) (w : ℕ) → Holds (aims_outside c w) → (read_lawful c w).number ≡ 0 → ⊥
unfolding read_lawful read_by parts_of answered refusals567 fits
unread c w o z =
    let i = parts_of c w in
    let r = row_at i.row in
    let tests = refusals567 c r i in
    let q = obeyed tests (numbered tests tt) z in
    omega (arith, a_target c r.value i.value o.0 q.1.1.0.1.1.1.1, o.1)

-- the first that fails of a list whose third test fails
third : (p q r : Bool) (n : ℕ) → (T r → ⊥) → (0 < pick p (pick q (pick r n 3) 2) 1) × (pick p (pick q (pick r n 3) 2) 1 ≤ 3)
unfolding pick
third true true true n h = absurd (h tt)
third true true false n h = (omega arith, omega arith)
third true false r n h = (omega arith, omega arith)
third false q r n h = (omega arith, omega arith)

pub caught_by_3 : CaughtBy3
unfolding rules
caught_by_3 c image certificate a u o =
    let x = mark_at certificate a in
    let caught = if? (used x) (rule3 (read_at c image a).number (facts_at c image a)) in
    third (test (if? (eqb a 0) (rule1 x))) (test (if? (used x) (rule2 c x))) (test caught) _ (λ t. unread c (get_or image a 0) o (holds caught t u).0)
