-- A core in its ranges stays in them by each of the small changes of specs/Cores.antt.
-- Assumes nothing.
use Prim.Native.Nat.{ℕ, ◌<◌, ◌≤◌}
use native.Mathlib.Omega.{arith}
use lib.Dec.{eqb}
use Rattle.laws.specs.Choice.{pick, either}
use Rattle.words.specs.declared.Config.{Config}
use Rattle.state.specs.declared.Core.{Core}
use Rattle.state.specs.State.{stack_limit}
use Rattle.state.specs.Cores.{at, posting, flagged, indexed, multiplied, deep, masked, banked, taking, logging}
use Rattle.state.specs.Good.{InBank, Indices, Flags, Masks, High, Posted, Ranged}

module _ {c : Config} {inputs room : ℕ} where
  -- the fields in their order
  ranged : {m : Core} →
      m.pc < 0x800000 →
      InBank c m.wp →
      Indices c m.loaded m.rx m.ry →
      Flags m.n m.z →
      High c m.spr7 →
      m.depth ≤ stack_limit c.pcstack →
      Masks m.imask m.saved m.mode →
      Posted c m.posted m.port →
      m.taken ≤ inputs →
      m.logged ≤ room →
      Ranged c inputs room m
  ranged a b i f h d k p t l =
      record { pc = a; bank = b; indices = i; flags = f; high = h; depth = d; masks = k; posted = p; taken = t; logged = l }

  module _ {m : Core} (g : Ranged c inputs room m) where
    pub kept_at : {p : ℕ} → p < 0x800000 → Ranged c inputs room (at m p)
    kept_at h = ranged h g.bank g.indices g.flags g.high g.depth g.masks g.posted g.taken g.logged

    pub kept_banked : {w : ℕ} → InBank c w → Ranged c inputs room (banked m w)
    kept_banked h = ranged g.pc h g.indices g.flags g.high g.depth g.masks g.posted g.taken g.logged

    pub kept_indexed : {l x y : ℕ} → Indices c l x y → Ranged c inputs room (indexed m l x y)
    kept_indexed h = ranged g.pc g.bank h g.flags g.high g.depth g.masks g.posted g.taken g.logged

    pub kept_flagged : (bit26 : ℕ) {z n : ℕ} → z ≤ 1 → n ≤ 1 → Ranged c inputs room (flagged m bit26 z n)
    kept_flagged bit26 {z} {n} p q =
        let h : Flags (pick (eqb bit26 0) n m.n) (pick (eqb bit26 0) z m.z) =
        record {
          negative = either (λ x. x ≤ 1) (eqb bit26 0) n m.n (λ t. q) (λ f. g.flags.negative);
          zero = either (λ x. x ≤ 1) (eqb bit26 0) z m.z (λ t. p) (λ f. g.flags.zero);
        } in
        ranged g.pc g.bank g.indices h g.high g.depth g.masks g.posted g.taken g.logged

    pub kept_multiplied : {x : ℕ} → High c x → Ranged c inputs room (multiplied m x)
    kept_multiplied h = ranged g.pc g.bank g.indices g.flags h g.depth g.masks g.posted g.taken g.logged

    pub kept_deep : {d : ℕ} → d ≤ stack_limit c.pcstack → Ranged c inputs room (deep m d)
    kept_deep h = ranged g.pc g.bank g.indices g.flags g.high h g.masks g.posted g.taken g.logged

    pub kept_masked : {i k d : ℕ} → Masks i k d → Ranged c inputs room (masked m i k d)
    kept_masked h = ranged g.pc g.bank g.indices g.flags g.high g.depth h g.posted g.taken g.logged

    pub kept_posting : {x a : ℕ} → Posted c x a → Ranged c inputs room (posting m x a)
    kept_posting h = ranged g.pc g.bank g.indices g.flags g.high g.depth g.masks h g.taken g.logged

    pub kept_taking : m.taken < inputs → Ranged c inputs room (taking m)
    kept_taking h = ranged g.pc g.bank g.indices g.flags g.high g.depth g.masks g.posted (omega arith) g.logged

    pub kept_logging : m.logged < room → Ranged c inputs room (logging m)
    kept_logging h = ranged g.pc g.bank g.indices g.flags g.high g.depth g.masks g.posted g.taken (omega arith)
