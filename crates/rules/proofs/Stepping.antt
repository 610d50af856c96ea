-- In a state of the invariant a step can be stopped only by 13, 14, 15 and 27, and it keeps the invariant.
-- Assumes nothing.
use Prim.Native.Nat.{ℕ, ◌+◌, ◌<◌, ◌≤◌}
use mathlib.Core.Path.{◌≡◌}
use mathlib.Core.Logic.{◌⊎◌, inl, inr}
use mathlib.Core.Bool.{◌&&◌}
use mathlib.Core.List.{List}
use native.Mathlib.Omega.{arith}
use lib.Dec.{T, eqb, eqb→eq}
use lib.ListN.{get_or}
use Rattle.laws.specs.Choice.{either}
use Rattle.laws.specs.Test.{Holds, and_left, and_right}
use Rattle.laws.specs.First.{Every, Obeyed, allowed}
use Rattle.laws.specs.Lists.{◌also◌}
use Rattle.words.specs.Rows.{row_at}
use Rattle.words.specs.Words.{refusals567}
use Rattle.state.specs.State.{Env, State, stack_limit}
use Rattle.state.specs.Operands.{view_of}
use Rattle.state.specs.Stops.{parts_at, kind_at, facts_at, stop8, stops, stops9to15}
use Rattle.state.specs.Step.{Outcome, refused, number, applied, plan_at, advance_of}
use Rattle.state.proofs.Ranges.{Bounds, bounds, good, valid}
use Rattle.state.proofs.StaysValid.{stays_good}
use Rattle.rules.specs.Marks.{mark_at, used, level_of, sub_of, mode_of}
use Rattle.rules.specs.Rules.{rules, rules_at, reads_port}
use Rattle.rules.specs.Check.{Passes}
use Rattle.rules.specs.Invariant.{Control, Invariant}
use Rattle.rules.proofs.Successors.{target_in}
use Rattle.rules.proofs.Moves.{MovesBy, planned, bank_barred, back_barred, callee, plan_moves}
use Rattle.rules.proofs.Kept.{Kept, kept_rules, passes_567, seen_reading}
use Rattle.rules.proofs.Control.{moved_control}

-- P allows a pass and the numbers that no certificate rules out
pub record Allows (P : ℕ → Type 0) : Type 0 where
  pub pass : P 0
  pub address : P 13
  pub input : P 14
  pub room : P 15
  pub index : P 27

module _ (e : Env) (certificate : List ℕ) (ok : Passes e.config e.image certificate) where
  law : Bounds e.config
  law = bounds e.config ok.lawful

  -- rule 1
  pub record Start : Type 0 where
    pub used : T (used (mark_at certificate 0))
    pub main : sub_of (mark_at certificate 0) ≡ 0
    pub normal : mode_of (mark_at certificate 0) ≡ 0

  pub start : Start
  unfolding rules
  start = let h = (ok.rules 0 law.image_some).0 tt in record { used = h.0; main = h.1.0; normal = h.1.1 }

  pub top_level : level_of (mark_at certificate 0) ≤ stack_limit e.config.pcstack
  top_level = (kept_rules e.config e.image certificate 0 (ok.rules 0 law.image_some) start.used).level

  module _ (s : State) (v : Invariant e certificate s) where
    abbrev pc : ℕ
    pc = s.core.pc

    rules_here : Obeyed (rules_at e.config e.image certificate pc)
    rules_here = ok.rules pc v.control.here.below

    keeps : Kept e.config certificate pc (parts_at e s) (facts_at e s) (reads_port e.config e.image (pc + 1))
    keeps = kept_rules e.config e.image certificate pc rules_here v.control.here.used

    reads : Obeyed (refusals567 e.config (row_at (parts_at e s).row) (parts_at e s))
    reads = passes_567 e.config e.image certificate pc rules_here v.control.here.used

    -- each stop is passed, or its number is one of those that P allows
    pub stops_hold : (P : ℕ → Type 0) → Allows P → Every (λ r. Holds r.1 ⊎ P r.0) (stops e s)
    unfolding stops refusals567 stops9to15
    stops_hold P a =
        let p = v.control.here in
        let k = keeps in
        let r = reads in
        let n = (parts_at e s).row in
        inl p.below also
        inl r.0 also
        inl r.1.0 also
        inl r.1.1.0 also
        inl special also
        inl no_reading also
        inr a.index also
        inl (λ t. omega (arith, lower t, p.level, top_level)) also
        inl (λ t. omega (arith, k.return_mark t, p.sub)) also
        inl ((λ t. absurd (k.free (bank_barred n r.0 t))) also (λ t. absurd (k.free (back_barred n r.0 t)))) also
        inr a.address also
        inr a.input also
        inr a.room also
        tt
      where
        special : Holds (stop8 s.core.mode (parts_at e s).source (facts_at e s))
        special = rw v.control.here.mode at keeps.special

        lower : T (facts_at e s).calls → level_of (mark_at certificate (parts_at e s).value) < level_of (mark_at certificate pc)
        lower t =
            let u = callee (parts_at e s).row reads.0 keeps.free t in
            (keeps.follows _ (target_in (facts_at e s) pc (parts_at e s).value u)).lower t

        no_reading : T ((facts_at e s).input && eqb s.core.posted 1) → s.core.port ≡ get_or s.registers (s.core.wp + (parts_at e s).source) 0
        no_reading t =
            let a = (facts_at e s).input in
            let b = eqb s.core.posted 1 in
            absurd
            (v.control.quiet (eqb→eq s.core.posted 1 (and_right a b t))
            (seen_reading e.config e.image certificate pc rules_here v.control.here.used (and_left a b t)))

    pub number_allowed : (P : ℕ → Type 0) → Allows P → P (number e s)
    unfolding number
    number_allowed P a = allowed P (stops e s) a.pass (stops_hold P a)

    -- the change that a step carries out
    moves : MovesBy (facts_at e s) (parts_at e s).value s.core s.stack (plan_at e s)
    unfolding plan_at refusals567
    moves =
        let n = (parts_at e s).row in
        let q = planned e.config n reads.0 reads.1.0 in
        plan_moves (view_of e s) (parts_at e s) (kind_at e s) q

    abbrev Controlled : State → Type 0
    Controlled t = Control e.config e.image certificate t.core.pc t.core.depth t.stack t.core.mode t.core.posted

    advanced_control : Controlled (advance_of e s).state
    unfolding advance_of applied
    advanced_control =
        either (λ (o : Outcome). Controlled o.state) (eqb (number e s) 0) _ (refused (number e s) s)
        (λ t. moved_control e.config e.image certificate (parts_at e s) (facts_at e s) s.core s.stack keeps v.control
        (omega (arith, top_level, law.stack)) moves)
        (λ f. v.control)

    pub advanced_keeps : Invariant e certificate (advance_of e s).state
    advanced_keeps =
        record { control = advanced_control; valid = valid e (advance_of e s).state (stays_good e s (good e s v.valid)) }

    pub advanced_allowed : (P : ℕ → Type 0) → Allows P → P (advance_of e s).number
    unfolding advance_of
    advanced_allowed P a =
        either (λ (r : Outcome). P r.number) (eqb (number e s) 0) _ (refused (number e s) s) (λ t. a.pass)
        (λ f. number_allowed P a)

    -- the return stack
    pub low : s.core.depth ≤ level_of (mark_at certificate 0)
    low = omega (arith, v.control.here.level)
