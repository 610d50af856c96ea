-- The eight rules at one address, as the code asks them.
-- Assumes nothing.
use Prim.Native.Nat.{ℕ, ◌+◌}
use mathlib.Core.Path.{◌≡◌, refl}
use mathlib.Core.Bool.{Bool, true, false, not}
use mathlib.Core.List.{List}
use Rattle.std.proofs.Common.{Ok, Err}
use lib.Dec.{eqb}
use lib.ListN.{get_or}
use Rattle.laws.specs.Choice.{pick}
use Rattle.laws.specs.Test.{test, imp, most, if?}
use Rattle.words.specs.declared.Config.{Config}
use Rattle.words.specs.declared.Instruction.{Instruction}
use Rattle.words.specs.declared.Facts.{Facts}
use Rattle.words.specs.declared.Refusal.{Refusal}
use Rattle.words.specs.declared.Refusal.TheVariants.{Unlawful, NoRow, Unavailable, OutOfRange}
use Rattle.words.specs.Answers.{reading_of, refusal_number}
use Rattle.words.specs.Facts.{facts_of}
use Rattle.words.specs.Words.{read_lawful}
use Rattle.state.specs.State.{stack_limit}
use Rattle.rules.specs.Marks.{mark_at, used, level_of}
use Rattle.rules.specs.Successors.{successors}
use Rattle.rules.specs.Rules.{rule1, rule4, rule5, rule6, rule7, rules, reads_port, read_at}
use Rattle.rules.specs.Check.{lowest}

-- Rule 8: the word after a port write

-- it can be read: its facts tell
pub port_read : (c : Config) (image : List ℕ) (next w : ℕ) (i : Instruction) (f : Facts) (output : Bool) → output ≡ true → w ≡ get_or image next 0 →
    reading_of (Ok i) ≡ read_lawful c w → f ≡ facts_of i.row → not f.input ≡ imp output (not (reads_port c image next))
unfolding reading_of
port_read c image next w i f output o ew er ef = rw (o, ← ew, ← er, ef)

-- it cannot: it is no port read
pub no_port : (c : Config) (image : List ℕ) (next w : ℕ) (x : Refusal) (output : Bool) → output ≡ true → w ≡ get_or image next 0 →
    reading_of (Err x) ≡ read_lawful c w → true ≡ imp output (not (reads_port c image next))
unfolding reading_of refusal_number
no_port c image next w Unlawful output o ew er = rw (o, ← ew, ← er)
no_port c image next w NoRow output o ew er = rw (o, ← ew, ← er)
no_port c image next w Unavailable output o ew er = rw (o, ← ew, ← er)
no_port c image next w OutOfRange output o ew er = rw (o, ← ew, ← er)

-- An unused address: rules 2 to 8 do not bind it

unused_first : (b : Bool) → pick {A = ℕ} b 1 0 ≡ pick (imp b false) 0 1
unfolding pick
unused_first true = refl
unused_first false = refl

pub unused_address : (c : Config) (image certificate : List ℕ) (a x r : ℕ) → x ≡ mark_at certificate a → used x ≡ false → r ≡ pick (eqb a 0) 1 0 →
    r ≡ lowest c image certificate a
unfolding rules pick
unused_address c image certificate a x r ex u er = rw (er, ← ex, u) (unused_first (eqb a 0))

-- The lowest rule that an address breaks, where the lower ones are kept: r1 to r8 is what the code has of each

module _ (c : Config) (image certificate : List ℕ) (a x limit : ℕ) (ex : x ≡ mark_at certificate a) (el : limit ≡ stack_limit c.pcstack) where
  module _ (r1 : Bool) (e1 : r1 ≡ test (if? (eqb a 0) (rule1 x))) where
    pub breaks_1 : r1 ≡ false → 1 ≡ lowest c image certificate a
    unfolding rules pick
    breaks_1 h = rw (← ex, ← e1, h)

    pub unused_keeps : r1 ≡ true → used x ≡ false → 0 ≡ lowest c image certificate a
    unfolding rules pick
    unused_keeps h u = rw (← ex, ← e1, h, u)

    module _ (k1 : r1 ≡ true) (u : used x ≡ true) (r2 : Bool) (e2 : r2 ≡ test (most (level_of x) limit)) where
      pub breaks_2 : r2 ≡ false → 2 ≡ lowest c image certificate a
      unfolding rules pick
      breaks_2 h = rw (← ex, ← el, ← e1, k1, u, ← e2, h)

      module _ (k2 : r2 ≡ true) where
        pub unread_3 : (y : Refusal) → reading_of (Err y) ≡ read_at c image a → 3 ≡ lowest c image certificate a
        unfolding rules pick reading_of refusal_number
        unread_3 Unlawful h = rw (← ex, ← el, ← e1, k1, u, ← e2, k2, ← h)
        unread_3 NoRow h = rw (← ex, ← el, ← e1, k1, u, ← e2, k2, ← h)
        unread_3 Unavailable h = rw (← ex, ← el, ← e1, k1, u, ← e2, k2, ← h)
        unread_3 OutOfRange h = rw (← ex, ← el, ← e1, k1, u, ← e2, k2, ← h)

        module _ (i : Instruction) (er : reading_of (Ok i) ≡ read_at c image a) (f : Facts) (ef : f ≡ facts_of i.row) where
          pub breaks_3 : f.barred ≡ true → 3 ≡ lowest c image certificate a
          unfolding rules pick reading_of
          breaks_3 h = rw (← ex, ← el, ← e1, k1, u, ← e2, k2, ← er, ← ef, h)

          abbrev mark : ℕ → ℕ
          mark = mark_at certificate

          module _ (k3 : f.barred ≡ false) (r4 : Bool) (e4 : r4 ≡ test (rule4 mark (successors f a i.value) c.imsize)) where
            pub breaks_4 : r4 ≡ false → 4 ≡ lowest c image certificate a
            unfolding rules pick reading_of
            breaks_4 h = rw (← er, ← ef, ← e4, h, ← ex, ← el, ← e1, k1, u, ← e2, k2, k3)

            module _ (k4 : r4 ≡ true) (r5 : Bool) (e5 : r5 ≡ test (rule5 mark (successors f a i.value) f x)) where
              pub breaks_5 : r5 ≡ false → 5 ≡ lowest c image certificate a
              unfolding rules pick reading_of
              breaks_5 h = rw (← er, ← ef, ← e4, k4, ← ex, ← e5, h, ← el, ← e1, k1, u, ← e2, k2, k3)

              module _ (k5 : r5 ≡ true) (r6 : Bool) (e6 : r6 ≡ test (rule6 mark (successors f a i.value) x)) where
                pub breaks_6 : r6 ≡ false → 6 ≡ lowest c image certificate a
                unfolding rules pick reading_of
                breaks_6 h = rw (← er, ← ef, ← e4, k4, ← ex, ← e5, k5, ← e6, h, ← el, ← e1, k1, u, ← e2, k2, k3)

                module _ (k6 : r6 ≡ true) (r7 : Bool) (e7 : r7 ≡ test (rule7 mark (successors f a i.value) f i.source x)) where
                  pub breaks_7 : r7 ≡ false → 7 ≡ lowest c image certificate a
                  unfolding rules pick reading_of
                  breaks_7 h = rw (← er, ← ef, ← e4, k4, ← ex, ← e5, k5, ← e6, k6, ← e7, h, ← el, ← e1, k1, u, ← e2, k2, k3)

                  module _ (k7 : r7 ≡ true) (r8 : Bool) (e8 : r8 ≡ imp f.output (not (reads_port c image (a + 1)))) where
                    pub breaks_8 : r8 ≡ false → 8 ≡ lowest c image certificate a
                    unfolding rules pick reading_of
                    breaks_8 h = rw (← er, ← ef, ← e4, k4, ← ex, ← e5, k5, ← e6, k6, ← e7, k7, ← e8, h, ← el, ← e1, k1, u, ← e2, k2, k3)

                    pub keeps : r8 ≡ true → 0 ≡ lowest c image certificate a
                    unfolding rules pick reading_of
                    keeps h = rw (← er, ← ef, ← e4, k4, ← ex, ← e5, k5, ← e6, k6, ← e7, k7, ← e8, h, ← el, ← e1, k1, u, ← e2, k2, k3)
