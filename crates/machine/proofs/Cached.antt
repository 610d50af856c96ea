-- The cells that a run keeps: what is found, and what stays right when a cell is kept; and what a cell that is found tells of the step.
-- Assumes nothing.
use Prim.Native.Nat.{ℕ, ◌+◌, ◌*◌, ◌<◌, ◌≤◌}
use mathlib.Core.Path.{◌≡◌, refl, sym, ap, ◌∙◌}
use mathlib.Core.Bool.{Bool, true, false}
use mathlib.Core.List.{List, [], ◌∷◌}
use mathlib.Core.Logic.{inl, inr}
use native.Mathlib.Omega.{arith}
use borrow.Author.Tests.{eqb-true, eqb-false, eq-eqb}
use lib.Bits.{bit_and, and_le_r, and_zero_r}
use lib.Dec.{eqb}
use lib.ListN.{get_or, set, replicate, length-set, length-replicate, get_or-replicate}
use lib.Seq.{get_or-set_same, get_or-set_other}
use Rattle.laws.specs.Choice.{pick}
use Rattle.laws.specs.Test.{Holds}
use Rattle.words.specs.declared.Config.{Config}
use Rattle.words.specs.Configs.{lawful}
use Rattle.words.specs.Lookup.{entry_at}
use Rattle.state.specs.declared.Change.{Change}
use Rattle.state.specs.State.{Env, State}
use Rattle.state.specs.Operands.{view_of}
use Rattle.state.specs.Step.{cycles_of}
use Rattle.state.specs.Good.{Good}
use Rattle.cells.specs.Cell.{action_in, cycles_in, Inside}
use Rattle.cells.proofs.Cells.{cell_inside, zero_inside, cell_carries, cell_cycles, cell_told, CellCase, refused, switched_on, switched_off, carried}
use Rattle.machine.specs.Exec.{Acts}
use Rattle.machine.specs.Cached.{cell_at, Kept, Cached}
use Rattle.machine.specs.Stretching.{Decides}
use Rattle.machine.proofs.Lookup.{read_verdict, acted_here, facts_here, valued, keeps_mode}

module _ (c : Config) (image : List ℕ) (mask : ℕ) where
  -- what is found for an address is its cell, or none
  pub found : (cells : List ℕ) (pc : ℕ) → Cached c image mask cells → Kept c image pc (cell_at mask cells pc)
  unfolding cell_at pick
  found cells pc k = go (eqb (get_or cells (2 * bit_and pc mask) 0) pc) refl
    where
      i : ℕ
      i = bit_and pc mask

      go : (b : Bool) → eqb (get_or cells (2 * bit_and pc mask) 0) pc ≡ b → Kept c image pc (pick b (get_or cells (2 * bit_and pc mask + 1) 0) 0)
      go true q =
          let h = k.each (bit_and pc mask) (and_le_r pc mask) in
          let t : get_or cells (2 * bit_and pc mask) 0 ≡ pc = eqb-true _ _ q in
          rw t at h
      go false q = inl refl

-- its registers are in the bank
pub kept_inside : (c : Config) (image : List ℕ) (a x : ℕ) → Holds (lawful c) → Kept c image a x → Inside c x
kept_inside c image a x h (inl z) = rw z (zero_inside c h)
kept_inside c image a x h (inr p) = rw p.2 (cell_inside c (get_or image a 0) h p.1)

no_action : action_in 0 ≡ 0
unfolding action_in
no_action = refl

-- what the code decides by a cell that is found
pub decided : (e : Env) (s : State) (x k : ℕ) (r : Change) → Good e s → s.core.mode ≡ 0 → Kept e.config e.image s.core.pc x →
    Acts (view_of e s) x r → k ≡ cycles_in x → Decides e s x (record { cycles = k; change = r })
unfolding pick
decided e s x k r g m (inl z) a q =
    record {
      apart = a.apart;
      change = λ n. absurd (n (ap action_in z ∙ no_action));
      cycles = λ n. absurd (n (ap action_in z ∙ no_action));
      no_switch = λ n. absurd (n (ap action_in z ∙ no_action));
    }
decided e s x k r g m (inr p) a q = go (cell_told e.config word g.lawful p.1)
  where
    word : ℕ
    word = get_or e.image s.core.pc 0

    go : CellCase e.config (get_or e.image s.core.pc 0) → Decides e s x (record { cycles = k; change = r })
    go (refused n f rd z v) = let y = ap action_in p.2 ∙ z in record { apart = a.apart; change = λ n. absurd (n y); cycles = λ n. absurd (n y); no_switch = λ n. absurd (n y) }
    go (switched_on i rd t z v) = let y = ap action_in p.2 ∙ z in record { apart = a.apart; change = λ n. absurd (n y); cycles = λ n. absurd (n y); no_switch = λ n. absurd (n y) }
    go (switched_off i rd t z v) = let y = ap action_in p.2 ∙ z in record { apart = a.apart; change = λ n. absurd (n y); cycles = λ n. absurd (n y); no_switch = λ n. absurd (n y) }
    go (carried i rd t z) =
        let w = get_or e.image s.core.pc 0 in
        let v = read_verdict e.config w s.core.mode i true rd (rw m refl) in
        record {
          apart = a.apart;
          change = λ n.
              a.acts (entry_at i.row) i (rw p.2 (cell_carries e.config w i g.lawful p.1 rd t)) (valued e.config w i g.lawful rd) n m ∙
              sym (acted_here e s p.0 i rd (v ∙ refl));
          cycles = λ n y.
              q ∙
              (ap cycles_in p.2 ∙
              (cell_cycles e.config w i g.lawful p.1 rd t ∙ ap (cycles_of e.config) (facts_here e s p.0 i rd)));
          no_switch = λ n. rw (sym (facts_here e s p.0 i rd)) (keeps_mode (entry_at i.row) t);
        }

-- one cell alone

pub pair_cached : (c : Config) (image : List ℕ) (pc x : ℕ) → Kept c image pc x → Cached c image 0 (pc ∷ x ∷ [])
pair_cached c image pc x k = record { room = omega arith; each = λ i h. let z : i ≡ 0 = omega (arith, h) in rw z k }

pub pair_at : (pc x : ℕ) → cell_at 0 (pc ∷ x ∷ []) pc ≡ x
unfolding cell_at pick
pair_at pc x = rw (and_zero_r pc, eq-eqb pc pc refl)

-- a cell more

module _ (c : Config) (image : List ℕ) (mask : ℕ) (cells : List ℕ) (pc x : ℕ) (k : Cached c image mask cells) (new : Kept c image pc x) where
  abbrev i : ℕ
  i = bit_and pc mask

  abbrev after : List ℕ
  after = set (set cells (2 * i) pc) (2 * i + 1) x

  low : i ≤ mask
  low = and_le_r pc mask

  pub keep_cached : Cached c image mask after
  keep_cached =
      record {
        room = rw (length-set (set cells (2 * i) pc) (2 * i + 1) x ∙ length-set cells (2 * i) pc) k.room;
        each = λ j h. go j h (eqb j i) refl;
      }
    where
      go : (j : ℕ) → j ≤ mask → (b : Bool) → eqb j i ≡ b → Kept c image (get_or after (2 * j) 0) (get_or after (2 * j + 1) 0)
      go j h true q =
          let z : j ≡ i = eqb-true j i q in
          let tag : get_or after (2 * i) 0 ≡ pc =
          get_or-set_other (set cells (2 * i) pc) (2 * i + 1) (2 * i) x 0 (λ e. omega (arith, e)) ∙ get_or-set_same cells (2 * i) pc 0 (omega (arith, low, k.room)) in
          let held : get_or after (2 * i + 1) 0 ≡ x =
          get_or-set_same (set cells (2 * i) pc) (2 * i + 1) x 0 (rw (length-set cells (2 * i) pc) (omega (arith, low, k.room))) in
          rw (z, tag, held) new
      go j h false q =
          let n : j ≡ i → ⊥ = eqb-false j i q in
          let tag : get_or after (2 * j) 0 ≡ get_or cells (2 * j) 0 =
          get_or-set_other (set cells (2 * i) pc) (2 * i + 1) (2 * j) x 0 (λ e. omega (arith, e)) ∙
          get_or-set_other cells (2 * i) (2 * j) pc 0 (λ e. n (omega (arith, e))) in
          let held : get_or after (2 * j + 1) 0 ≡ get_or cells (2 * j + 1) 0 =
          get_or-set_other (set cells (2 * i) pc) (2 * i + 1) (2 * j + 1) x 0 (λ e. n (omega (arith, e))) ∙
          get_or-set_other cells (2 * i) (2 * j + 1) pc 0 (λ e. omega (arith, e)) in
          rw (tag, held) (k.each j h)

  -- is found
  pub keep_at : cell_at mask after pc ≡ x
  unfolding cell_at pick
  keep_at =
      let tag : get_or after (2 * i) 0 ≡ pc =
      get_or-set_other (set cells (2 * i) pc) (2 * i + 1) (2 * i) x 0 (λ e. omega (arith, e)) ∙ get_or-set_same cells (2 * i) pc 0 (omega (arith, low, k.room)) in
      let held : get_or after (2 * i + 1) 0 ≡ x =
      get_or-set_same (set cells (2 * i) pc) (2 * i + 1) x 0 (rw (length-set cells (2 * i) pc) (omega (arith, low, k.room))) in
      rw (tag, eq-eqb pc pc refl, held)

-- none yet
pub none_cached : (c : Config) (image : List ℕ) (mask n : ℕ) → 2 * mask + 1 < n → Cached c image mask (replicate n 0)
none_cached c image mask n h =
    record {
      room = rw (length-replicate {A = ℕ} n 0) h;
      each = λ i l. inl (get_or-replicate n (2 * i + 1) 0 0 (omega (arith, l, h)));
    }
