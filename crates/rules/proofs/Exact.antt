-- The check passes exactly when the configuration is lawful, image and certificate are as long as it says, and the eight rules hold; and it answers the
-- first address that breaks one, with its lowest rule.
-- Assumes nothing.
use Prim.Native.Nat.{ℕ, zero, suc, ◌+◌, ◌<◌}
use mathlib.Core.Path.{◌≡◌, refl, ◌∙◌}
use mathlib.Core.Bool.{Bool, true, false}
use mathlib.Core.List.{List}
use native.Mathlib.Nat.{add-zero, zero-add}
use native.Mathlib.Omega.{arith}
use lib.Dec.{T, eqb, eqb→eq}
use lib.ListN.{length}
use Rattle.laws.specs.Choice.{pick, pick_yes, pick_no}
use Rattle.laws.specs.Test.{test, holds, tests, eq→eqb}
use Rattle.laws.specs.First.{Obeyed, numbered, obeyed, none_fails}
use Rattle.words.specs.declared.Config.{Config}
use Rattle.words.specs.Configs.{lawful}
use Rattle.rules.specs.Marks.{mark_at, level_of}
use Rattle.rules.specs.Rules.{rules, rules_at}
use Rattle.rules.specs.Check.{Answer, passed, refused, broken, sized, lowest, first_broken, check_of, Passes, Exact}

-- a choice between two answers of which the second is no pass
chosen : (b : Bool) (x y : Answer) → (y.number ≡ 0 → ⊥) → (pick b x y).number ≡ 0 → T b × (x.number ≡ 0)
unfolding pick
chosen true x y n e = (tt, e)
chosen false x y n e = absurd (n e)

module _ (f : ℕ → ℕ) (p : Answer) where
  -- a search that passes found nothing at any address
  pub nothing : (k a : ℕ) → (first_broken f p k a).number ≡ 0 → (i : ℕ) → i < k → f (a + i) ≡ 0
  unfolding first_broken
  nothing zero a e i h = omega arith
  nothing (suc k) a e zero h =
      let q = chosen (eqb (f a) 0) _ (broken a (f a)) (λ z. omega arith) e in
      rw add-zero (eqb→eq (f a) 0 q.0)
  nothing (suc k) a e (suc i) h =
      let q = chosen (eqb (f a) 0) _ (broken a (f a)) (λ z. omega arith) e in
      let m : suc a + i ≡ a + suc i = omega arith in
      rw (← m) (nothing k (suc a) q.1 i (omega arith))

  -- where there is nothing to find it gives p
  pub clear : (k a : ℕ) → ((i : ℕ) → i < k → f (a + i) ≡ 0) → first_broken f p k a ≡ p
  unfolding first_broken
  clear zero a h = refl
  clear (suc k) a h =
      let z : f a ≡ 0 = rw add-zero at (h 0 (omega arith)) in
      let r : (i : ℕ) → i < k → f (suc a + i) ≡ 0 = λ i b. let m : suc a + i ≡ a + suc i = omega arith in rw m (h (suc i) (omega arith)) in
      pick_yes (eqb (f a) 0) (first_broken f p k (suc a)) (broken a (f a)) (eq→eqb (f a) 0 z) ∙ clear k (suc a) r

  -- the address that it names is the first that breaks a rule
  pub found : (k a j : ℕ) → j < k → ((i : ℕ) → i < j → f (a + i) ≡ 0) → (f (a + j) ≡ 0 → ⊥) → first_broken f p k a ≡ broken (a + j) (f (a + j))
  unfolding first_broken
  found zero a j l h n = let z : ⊥ = omega arith in absurd z
  found (suc k) a zero l h n =
      let n' : f a ≡ 0 → ⊥ = rw add-zero at n in
      rw add-zero (pick_no (eqb (f a) 0) (first_broken f p k (suc a)) (broken a (f a)) (λ t. n' (eqb→eq (f a) 0 t)))
  found (suc k) a (suc j) l h n =
      let z : f a ≡ 0 = rw add-zero at (h 0 (omega arith)) in
      let m : a + suc j ≡ suc a + j = omega arith in
      let r : (i : ℕ) → i < j → f (suc a + i) ≡ 0 = λ i b. let m : suc a + i ≡ a + suc i = omega arith in rw m (h (suc i) (omega arith)) in
      let n' : f (suc a + j) ≡ 0 → ⊥ = rw m at n in
      rw m
      (pick_yes (eqb (f a) 0) (first_broken f p k (suc a)) (broken a (f a)) (eq→eqb (f a) 0 z) ∙
      found k (suc a) j (omega arith) r n')

module _ (c : Config) (image certificate : List ℕ) where
  -- the rules hold at an address exactly where none is answered
  pub obeyed_at : (a : ℕ) → lowest c image certificate a ≡ 0 → Obeyed (rules_at c image certificate a)
  unfolding rules
  obeyed_at a h = obeyed (rules_at c image certificate a) (numbered (rules_at c image certificate a) tt) h

  sound : (check_of c image certificate).number ≡ 0 → Passes c image certificate
  unfolding check_of
  sound e =
      let p = chosen (test (lawful c)) _ (refused 1) (λ z. omega arith) e in
      let b = sized c (length image) (length certificate) in
      let q = chosen (test b) _ (refused 2) (λ z. omega arith) p.1 in
      let l = holds b q.0 in
      let none = nothing (lowest c image certificate) (passed (level_of (mark_at certificate 0))) c.imsize 0 q.1 in
      record {
        lawful = holds (lawful c) p.0;
        image_long = l.0;
        certificate_long = l.1;
        rules = λ a h. obeyed_at a (rw zero-add at (none a h));
      }

  complete : Passes c image certificate → check_of c image certificate ≡ passed (level_of (mark_at certificate 0))
  unfolding check_of
  complete p =
      let b = sized c (length image) (length certificate) in
      let all = clear (lowest c image certificate) (passed (level_of (mark_at certificate 0))) c.imsize 0
      (λ i h. rw zero-add (none_fails (rules_at c image certificate i) (p.rules i h))) in
      pick_yes (test (lawful c)) _ (refused 1) (tests (lawful c) p.lawful) ∙
      (pick_yes (test b) _ (refused 2) (tests b (p.image_long, p.certificate_long)) ∙ all)

pub exact : Exact
exact c image certificate = record { sound = sound c image certificate; complete = complete c image certificate }
