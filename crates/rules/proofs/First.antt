-- Answer 17 names the first address that breaks a rule.
-- Assumes nothing.
use Prim.Native.Nat.{ℕ, zero, suc, ◌+◌, ◌<◌, ◌≤◌}
use mathlib.Core.Path.{◌≡◌, refl}
use mathlib.Core.List.{List}
use native.Mathlib.Omega.{arith}
use native.Mathlib.Decide.{dec_lt}
use lib.Dec.{eqb, eqb→eq}
use lib.ListN.{length}
use Rattle.laws.specs.Choice.{either}
use Rattle.laws.specs.Test.{test, eq→eqb}
use Rattle.laws.specs.First.{none_fails}
use Rattle.words.specs.declared.Config.{Config}
use Rattle.words.specs.Configs.{lawful}
use Rattle.rules.specs.Marks.{mark_at, level_of}
use Rattle.rules.specs.Rules.{rules_at}
use Rattle.rules.specs.Check.{Answer, passed, refused, broken, sized, lowest, first_broken, check_of}
use Rattle.rules.specs.Claims.{FirstBroken, NamesFirst}
use Rattle.rules.proofs.Exact.{obeyed_at}

-- of k addresses from a on, x names the first where f is not 0
record Located (f : ℕ → ℕ) (k a : ℕ) (x : Answer) : Type 0 where
  above : a ≤ x.address
  below : x.address < a + k
  before : (b : ℕ) → a ≤ b → b < x.address → f b ≡ 0
  breaks : f x.address ≡ 0 → ⊥
  rule : x.rule ≡ f x.address

module _ (f : ℕ → ℕ) (p : Answer) (pass : p.number ≡ 0) where
  located : (k a : ℕ) → (first_broken f p k a).number ≡ 17 → Located f k a (first_broken f p k a)
  unfolding first_broken
  located zero a = λ h. let x : ⊥ = omega arith in absurd x
  located (suc k) a =
      either (λ (x : Answer). x.number ≡ 17 → Located f (suc k) a x) (eqb (f a) 0) (first_broken f p k (suc a)) (broken a (f a))
      (λ t h. later (eqb→eq (f a) 0 t) (located k (suc a) h))
      (λ n h. record {
        above = omega arith;
        below = omega arith;
        before = λ b l m. let x : ⊥ = omega arith in absurd x;
        breaks = λ z. n (eq→eqb (f a) 0 z);
        rule = refl;
      })
    where
      later : {x : Answer} → f a ≡ 0 → Located f k (suc a) x → Located f (suc k) a x
      later {x} z h =
          record {
            above = omega (arith, h.above);
            below = omega (arith, h.below);
            before = λ b l m. go b m (dec_lt a b) l;
            breaks = h.breaks;
            rule = h.rule;
          }
        where
          go : (b : ℕ) → b < x.address → Dec (a < b) → a ≤ b → f b ≡ 0
          go b m (yes q) l = h.before b (omega arith) m
          go b m (no n) l = let q : b ≡ a = omega arith in rw q z

module _ (c : Config) (image certificate : List ℕ) where
  abbrev Named : Answer → Type 0
  Named x = x.number ≡ 17 → FirstBroken c image certificate x.address x.rule

  first_named : Named (check_of c image certificate)
  unfolding check_of
  first_named =
      let b = sized c (length image) (length certificate) in
      let p = passed (level_of (mark_at certificate 0)) in
      let f = lowest c image certificate in
      either Named (test (lawful c)) _ (refused 1)
      (λ t. either Named (test b) (first_broken f p c.imsize 0) (refused 2) (λ u h. named (located f p refl c.imsize 0 h)) (λ u h. absurd (wrong h)))
      (λ t h. absurd (wrong' h))
    where
      wrong : ◌≡◌ {A = ℕ} 2 17 → ⊥
      wrong h = omega arith

      wrong' : ◌≡◌ {A = ℕ} 1 17 → ⊥
      wrong' h = omega arith

      named : {x : Answer} → Located (lowest c image certificate) c.imsize 0 x → FirstBroken c image certificate x.address x.rule
      named {x} h =
          record {
            below = omega (arith, h.below);
            before = λ b l. obeyed_at c image certificate b (h.before b (omega arith) l);
            breaks = λ o. h.breaks (none_fails (rules_at c image certificate x.address) o);
            lowest = h.rule;
          }

pub names_first : NamesFirst
names_first = first_named
