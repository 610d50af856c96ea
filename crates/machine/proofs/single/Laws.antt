-- Steps that the loop does not carry out are the steps of the definitions.
-- Assumes nothing.
use Prim.Native.Nat.{ℕ, zero, suc, ◌+◌, ◌/◌, ◌%◌, ◌<◌, ◌≤◌}
use mathlib.Core.Path.{◌≡◌, refl, sym, ap, ◌∙◌}
use mathlib.Core.Bool.{Bool, true, false, ◌&&◌, ◌||◌}
use mathlib.Core.List.{List, [], ◌∷◌}
use mathlib.Core.Logic.{◌⊎◌, inl, inr}
use native.Mathlib.Nat.{mod-eq_of_lt}
use native.Mathlib.Omega.{arith}
use borrow.Author.Tests.{eqb-true}
use lib.Dec.{T, eqb}
use lib.ListN.{get_or, set, length-set}
use Rattle.laws.specs.Choice.{pick}
use Rattle.laws.specs.Table.{every, at_every}
use Rattle.laws.specs.Test.{test, Member, member}
use Rattle.words.specs.declared.Form.{Form}
use Rattle.words.specs.declared.Instruction.{Instruction}
use Rattle.words.specs.Kinds.{Kind, Condition, marks_of, move, enter_special, leave_special}
use Rattle.words.specs.Words.{read_lawful}
use Rattle.words.specs.Claims.{understood}
use Rattle.words.specs.Facts.{facts_for}
use Rattle.words.specs.Codes.{form_at, condition_at}
use Rattle.words.specs.Actions.{actions}
use Rattle.words.specs.Lookup.{action_at, action_kind, entry_at, entry_kind}
use Rattle.words.proofs.Checks.{alike, alike_is, entry_kind_lem}
use Rattle.words.proofs.Lookup.{read_row}
use Rattle.arith.specs.Width.{one}
use Rattle.state.specs.declared.Core.{Core}
use Rattle.state.specs.declared.Change.{Change}
use Rattle.state.specs.State.{Env, State, state}
use Rattle.state.specs.Cores.{masked, moved, stopped, to_register}
use Rattle.state.specs.Operands.{view_of, special_register}
use Rattle.state.specs.Plans.{plan_of, move_plan, enter_special_plan, leave_special_plan}
use Rattle.state.specs.Stops.{specials, stop8, stops9to15, facts_at}
use Rattle.state.specs.Step.{Outcome, applied, put_of, cycles_of, advance_of}
use Rattle.state.specs.Good.{Good}
use Rattle.cells.specs.Cell.{action_in, destination_in, source_in, value_in, cell_of, turns_on, first_apart, Carries}
use Rattle.cells.proofs.Cells.{cell_carries, cell_told, CellCase, refused, switched_on, switched_off, carried}
use Rattle.plans.specs.Values.{up, onward}
use Rattle.machine.specs.declared.Turns.{Turns}
use Rattle.machine.specs.Exec.{act, change_at}
use Rattle.machine.specs.Single.{stopped_by, passed_to, switched, reveals, revealed, revealed_in}
use Rattle.machine.specs.Stretching.{SameLengths, Went}
use Rattle.machine.proofs.advance.Laws.{outside, refused_by, carried_out, stop_small}
use Rattle.machine.proofs.Lookup.{refused_verdict, read_verdict, stopped_here, acted_here, facts_here, keeps_mode}
use Rattle.machine.proofs.stretching.Laws.{went_by, went_stopped}

-- what switches the mode

kind_on : (e : ℕ) → e / 0x4000000 ≡ 63 → entry_kind e ≡ enter_special
unfolding action_at actions
kind_on e q = ap (λ a. action_kind a e) q

kind_off : (e : ℕ) → e / 0x4000000 ≡ 62 → entry_kind e ≡ leave_special
unfolding action_at actions
kind_off e q = ap (λ a. action_kind a e) q

kind_move : (e : ℕ) → e / 0x4000000 ≡ 42 → entry_kind e ≡ move
unfolding action_at actions
kind_move e q = ap (λ a. action_kind a e) q

-- MOV of registers alone reads a special register

abbrev reveals_right : Form → Condition → ℕ → Bool
reveals_right f c a = alike (facts_for ((action_at a).does f c)).reveals (eqb a 42)

all_reveal : (f : Form) (c : Condition) → T (every first_apart (reveals_right f c))
unfolding action_at actions facts_for marks_of
all_reveal f c = tt

reveals_is : (e : ℕ) → e / 0x4000000 < first_apart → (facts_for (entry_kind e)).reveals ≡ eqb (e / 0x4000000) 42
reveals_is e h =
    alike_is _ _ (at_every first_apart (reveals_right (form_at (e / 4096 % 4)) (condition_at (e / 256 % 16))) (e / 0x4000000) (all_reveal _ _) h)

false_of : (b : Bool) → (b ≡ true → ⊥) → b ≡ false
false_of true h = absurd (h refl)
false_of false h = refl

and_true_left : (a b : Bool) → (a && b) ≡ true → a ≡ true
and_true_left true b q = refl
and_true_left false b q = q

-- a refused word's cell
switched_refused : (m : Core) (n : ℕ) → Member n (5 ∷ 6 ∷ 7 ∷ []) → (switched m n ≡ stopped_by m n) × (n ≡ 0 → ⊥)
unfolding switched pick
switched_refused m n (inl q) = rw q (refl, λ z. omega (arith, z))
switched_refused m n (inr (inl q)) = rw q (refl, λ z. omega (arith, z))
switched_refused m n (inr (inr q)) = rw q (refl, λ z. omega (arith, z))

-- SPR_ON's cell outside special-register mode, and in it

on_normal : (m : Core) → m.mode ≡ 0 → switched m turns_on ≡ passed_to (masked (onward m) 15 m.imask 1)
unfolding switched pick
on_normal m z = rw z

on_special : (m : Core) → m.mode ≡ 1 → switched m turns_on ≡ stopped_by m 8
unfolding switched pick
on_special m z = rw z

module _ (budget : ℕ) (some : 0 < budget) (e : Env) (s : State) (g : Good e s) (h : s.core.pc < e.config.imsize) where
  abbrev word : ℕ
  word = get_or e.image s.core.pc 0

  next_pc : up s.core.pc ≡ s.core.pc + 1
  unfolding up
  next_pc = mod-eq_of_lt (omega (arith, g.core.pc))

  -- a step that a change carries out, by hand
  passing : (x : Change) → x ≡ change_at e s → x.stop ≡ 0 → 2 ≡ cycles_of e.config (facts_at e s) → SameLengths s (applied x s) →
      Went budget e s (applied x s) (passed_to x.core)
  passing x p z k l = went_by budget e s (applied x s) 2 x.core g l (carried_out e s x 2 p z k) some

  -- or a stop
  stopping : (n : ℕ) → change_at e s ≡ stopped s.core n → (n ≡ 0 → ⊥) → Went budget e s s (stopped_by s.core n)
  stopping n p z =
      went_stopped budget e s n s.core g (sym (ap (λ (o : Outcome). o.number) (refused_by e s (stopped s.core n) (sym p) z))) z
      (rw p at (stop_small e s)) some

  module _ (i : Instruction) (read : read_lawful e.config word ≡ understood i) where
    row_kind : entry_kind (entry_at i.row) ≡ (Rattle.words.specs.Rows.row_at i.row).kind
    row_kind = entry_kind_lem i.row (read_row e.config word i read).1

    -- 8, or not
    verdict : (b : Bool) → test (stop8 s.core.mode i.source (facts_for (entry_kind (entry_at i.row)))) ≡ b →
        Rattle.machine.specs.Exec.verdict_of e.config s.core.mode word ≡ pick b 0 8
    verdict b t = read_verdict e.config word s.core.mode i b read (rw row_kind at t)

    two_cycles : (k : Kind) → entry_kind (entry_at i.row) ≡ k → 2 ≡ cycles_of e.config (facts_for k) → 2 ≡ cycles_of e.config (facts_at e s)
    two_cycles k q p = p ∙ (ap (λ (j : Kind). cycles_of e.config (facts_for j)) (sym q) ∙ ap (cycles_of e.config) (facts_here e s h i read))

    on_goes : entry_at i.row / 0x4000000 ≡ 63 → s.core.mode ≡ 0 →
        Went budget e s (state (masked (onward s.core) 15 s.core.imask 1) s.stack s.registers s.memory s.addresses s.values)
        (passed_to (masked (onward s.core) 15 s.core.imask 1))
    unfolding act stops9to15 plan_of facts_for marks_of pick enter_special_plan cycles_of one applied put_of
    on_goes t m =
        let k = kind_on (entry_at i.row) t in
        let v = verdict true (rw m refl) in
        let p : moved (masked (onward s.core) 15 s.core.imask 1) ≡ change_at e s =
        rw next_pc (sym (acted_here e s h i read v ∙ ap (act (view_of e s) i) k)) in
        passing (moved (masked (onward s.core) 15 s.core.imask 1)) p refl (two_cycles enter_special k refl)
        (record { stack = refl; registers = refl; memory = refl; addresses = refl; values = refl })

    on_stops : entry_at i.row / 0x4000000 ≡ 63 → s.core.mode ≡ 1 → Went budget e s s (stopped_by s.core 8)
    unfolding facts_for marks_of pick
    on_stops t m =
        stopping 8 (stopped_here e s h 8 (verdict false (rw (kind_on (entry_at i.row) t, m) refl)) (λ z. omega (arith, z))) (λ z. omega (arith, z))

    off_goes : entry_at i.row / 0x4000000 ≡ 62 → (s.core.mode ≡ 0) ⊎ (s.core.mode ≡ 1) →
        Went budget e s (state (masked (onward s.core) s.core.saved s.core.saved 0) s.stack s.registers s.memory s.addresses s.values)
        (passed_to (masked (onward s.core) s.core.saved s.core.saved 0))
    unfolding act stops9to15 plan_of facts_for marks_of pick leave_special_plan cycles_of one applied put_of
    off_goes t m =
        let k = kind_off (entry_at i.row) t in
        let v = verdict true (lets k m) in
        let p : moved (masked (onward s.core) s.core.saved s.core.saved 0) ≡ change_at e s =
        rw next_pc (sym (acted_here e s h i read v ∙ ap (act (view_of e s) i) k)) in
        passing (moved (masked (onward s.core) s.core.saved s.core.saved 0)) p refl (two_cycles leave_special k refl)
        (record { stack = refl; registers = refl; memory = refl; addresses = refl; values = refl })
      where
        lets : entry_kind (entry_at i.row) ≡ leave_special → (s.core.mode ≡ 0) ⊎ (s.core.mode ≡ 1) →
            test (stop8 s.core.mode i.source (facts_for (entry_kind (entry_at i.row)))) ≡ true
        lets q (inl z) = rw (q, z) refl
        lets q (inr z) = rw (q, z) refl

    module _ (x : ℕ) (p : Carries e.config x (entry_at i.row) i) (special : s.core.mode ≡ 1) where
      abbrev a : ℕ
      a = entry_at i.row / 0x4000000

      -- the word is MOV of a special register just where its cell says so
      told : ((facts_for (entry_kind (entry_at i.row))).leaves || (facts_for (entry_kind (entry_at i.row))).reveals && member i.source specials) ≡ reveals x
      unfolding reveals action_at actions
      told =
          rw (false_of _ (keeps_mode (entry_at i.row) p.carried_out).1, reveals_is (entry_at i.row) p.carried_out, p.action) (go (eqb a 42) refl)
        where
          go : (b : Bool) → eqb a 42 ≡ b → (b && member i.source specials) ≡ (b && member (source_in x) specials)
          go true q = ap (λ (y : ℕ). member y specials) (sym (p.source (rw (eqb-true a 42 q) tt)))
          go false q = refl

      tested : test (stop8 s.core.mode i.source (facts_for (entry_kind (entry_at i.row)))) ≡ reveals x
      tested = rw special told

      shown_goes : reveals x ≡ true →
          Went budget e s
          (state (onward s.core) s.stack
          (set s.registers (s.core.wp + destination_in x) (special_register e.config s.core.spr7 (source_in x))) s.memory s.addresses s.values)
          (passed_to (onward s.core))
      unfolding act stops9to15 plan_of facts_for marks_of pick move_plan cycles_of one applied put_of reveals action_at actions
      shown_goes q =
          let m : a ≡ 42 = sym p.action ∙ eqb-true (action_in x) 42 (and_true_left _ _ q) in
          let k = kind_move (entry_at i.row) m in
          let v = verdict true (tested ∙ q) in
          let d : destination_in x ≡ i.destination = p.destination (rw m tt) in
          let o : source_in x ≡ i.source = p.source (rw m tt) in
          let y = to_register (onward s.core) (s.core.wp + destination_in x) (special_register e.config s.core.spr7 (source_in x)) in
          let c : y ≡ change_at e s =
          rw (next_pc, d, o) (sym (acted_here e s h i read v ∙ (ap (act (view_of e s) i) k ∙ rw special refl))) in
          passing y c refl (two_cycles move k refl)
          (record { stack = refl; registers = length-set s.registers _ _; memory = refl; addresses = refl; values = refl })

      other_stops : reveals x ≡ false → Went budget e s s (stopped_by s.core 8)
      unfolding pick
      other_stops q = stopping 8 (stopped_here e s h 8 (verdict false (tested ∙ q)) (λ z. omega (arith, z))) (λ z. omega (arith, z))

-- The code's steps

two_modes : (m : ℕ) → m ≤ 1 → (m ≡ 0) ⊎ (m ≡ 1)
two_modes zero h = inl refl
two_modes (suc zero) h = inr refl
two_modes (suc (suc m)) h = let f : ⊥ = omega (arith, h) in absurd f

module _ (budget : ℕ) (some : 0 < budget) (e : Env) (s : State) (x : ℕ) (g : Good e s) (h : s.core.pc < e.config.imsize) (small : get_or e.image s.core.pc 0 < 4294967296)
    (q : x ≡ cell_of e.config (get_or e.image s.core.pc 0)) where
  abbrev left : Core → State
  left m = state m s.stack s.registers s.memory s.addresses s.values

  pub switch_went : (r : Turns) (n : ℕ) → action_in x ≡ 0 → n ≡ value_in x → r ≡ switched s.core n → Went budget e s (left r.core) r
  unfolding switched pick
  switch_went r n z nv rq = go (cell_told e.config (get_or e.image s.core.pc 0) g.lawful small)
    where
      go : CellCase e.config (get_or e.image s.core.pc 0) → Went budget e s (left r.core) r
      go (refused k f rd y v) =
          let nk : n ≡ k = nv ∙ (ap value_in q ∙ v) in
          let w = switched_refused s.core k f in
          let rk : r ≡ stopped_by s.core k = rq ∙ (ap (switched s.core) nk ∙ w.0) in
          rw rk (stopping budget some e s g h k (stopped_here e s h k (refused_verdict e.config (get_or e.image s.core.pc 0) s.core.mode k rd w.1) w.1) w.1)
      go (switched_on i rd t y v) =
          on (two_modes s.core.mode g.core.masks.special)
        where
          on : (s.core.mode ≡ 0) ⊎ (s.core.mode ≡ 1) → Went budget e s (left r.core) r
          on (inl m) = rw (rq ∙ (ap (switched s.core) (nv ∙ (ap value_in q ∙ v)) ∙ on_normal s.core m)) (on_goes budget some e s g h i rd t m)
          on (inr m) = rw (rq ∙ (ap (switched s.core) (nv ∙ (ap value_in q ∙ v)) ∙ on_special s.core m)) (on_stops budget some e s g h i rd t m)
      go (switched_off i rd t y v) =
          rw (rq ∙ ap (switched s.core) (nv ∙ (ap value_in q ∙ v))) (off_goes budget some e s g h i rd t (two_modes s.core.mode g.core.masks.special))
      go (carried i rd t y) = absurd (y (sym (ap action_in q) ∙ z))

  pub reveal_went : (r : Turns) (rest : List ℕ) → (action_in x ≡ 0 → ⊥) → (s.core.mode ≡ 0 → ⊥) → r ≡ revealed s.core x →
      rest ≡ revealed_in e.config s.core x s.registers →
      Went budget e s (state r.core s.stack rest s.memory s.addresses s.values) r
  unfolding revealed revealed_in pick
  reveal_went r rest n mn rq re = go (cell_told e.config (get_or e.image s.core.pc 0) g.lawful small)
    where
      one_mode : (s.core.mode ≡ 0) ⊎ (s.core.mode ≡ 1) → s.core.mode ≡ 1
      one_mode (inl z) = absurd (mn z)
      one_mode (inr z) = z

      go : CellCase e.config (get_or e.image s.core.pc 0) → Went budget e s (state r.core s.stack rest s.memory s.addresses s.values) r
      go (refused k f rd y v) = absurd (n (ap action_in q ∙ y))
      go (switched_on i rd t y v) = absurd (n (ap action_in q ∙ y))
      go (switched_off i rd t y v) = absurd (n (ap action_in q ∙ y))
      go (carried i rd t y) = by (reveals x) refl
        where
          p : Carries e.config x (entry_at i.row) i
          p = rw q (cell_carries e.config (get_or e.image s.core.pc 0) i g.lawful small rd t)

          m : s.core.mode ≡ 1
          m = one_mode (two_modes s.core.mode g.core.masks.special)

          by : (b : Bool) → reveals x ≡ b → Went budget e s (state r.core s.stack rest s.memory s.addresses s.values) r
          by true t = rw (rw t at rq, rw t at re) (shown_goes budget some e s g h i rd x p m t)
          by false t = rw (rw t at rq, rw t at re) (other_stops budget some e s g h i rd x p m t)

-- past the image
pub past_image : (e : Env) (s : State) → e.config.imsize ≤ s.core.pc → (advance_of e s).number ≡ 4
past_image e s l = sym (ap (λ (o : Outcome). o.number) (refused_by e s (stopped s.core 4) (outside e s l) (λ z. omega (arith, z))))
