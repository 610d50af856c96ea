-- Each way that control can go keeps the invariant's control part, under the rules.
-- Assumes nothing.
use Prim.Native.Nat.{ℕ, zero, suc, ◌+◌, ◌-◌, ◌<◌, ◌≤◌}
use mathlib.Core.Path.{◌≡◌, refl, ◌∙◌, ap}
use mathlib.Core.Logic.{◌⊎◌, inl, inr}
use mathlib.Core.Bool.{Bool, true, false, not, ◌&&◌, ◌||◌}
use mathlib.Core.List.{List}
use native.Mathlib.Omega.{arith}
use native.Mathlib.Decide.{dec_lt}
use lib.Dec.{T, T_not}
use lib.ListN.{length, get_or, set, length-set}
use lib.Seq.{get_or-set_same, get_or-set_other}
use Rattle.std.specs.Prelude.{Option}
use Rattle.laws.specs.Choice.{pick}
use Rattle.laws.specs.Test.{Holds, member, eq→eqb, and_left, or_cases, or_left, or_right}
use Rattle.words.specs.declared.Config.{Config}
use Rattle.words.specs.declared.Instruction.{Instruction}
use Rattle.words.specs.declared.Facts.{Facts}
use Rattle.state.specs.declared.Core.{Core}
use Rattle.state.specs.declared.Write.{Write}
use Rattle.state.specs.Stops.{stop8, specials}
use Rattle.state.specs.Step.{put_of}
use Rattle.rules.specs.Marks.{mark_at, level_of, mode_of}
use Rattle.rules.specs.Successors.{successor, successors}
use Rattle.rules.specs.Rules.{mode_after, reads_port}
use Rattle.rules.specs.Invariant.{Spot, Control}
use Rattle.rules.proofs.Successors.{◌∈◌}
use Rattle.rules.proofs.Moves.{Moves, to_successor, to_call, to_saved, to_barred, silent}
use Rattle.rules.proofs.Kept.{Kept}

-- what special-register mode does not allow stands in normal mode
pub normal : (f : Facts) (source mode : ℕ) → mode ≤ 1 → Holds (stop8 mode source f) → T (not (f.leaves || f.reveals)) → mode ≡ 0
normal f source zero l h n = refl
normal f source (suc k) l h n =
    let one : suc k ≡ 1 = omega arith in
    let t = h (eq→eqb (suc k) 1 one) in
    absurd (T_not (f.leaves || f.reveals) n (go (or_cases f.leaves (f.reveals && member source specials) t)))
  where
    go : T f.leaves ⊎ T (f.reveals && member source specials) → T (f.leaves || f.reveals)
    go (inl t) = or_left f.leaves f.reveals t
    go (inr t) = or_right f.leaves f.reveals (and_left f.reveals (member source specials) t)

module _ (c : Config) (image certificate : List ℕ) (i : Instruction) (f : Facts) (m : Core) (stack : List ℕ)
    (k : Kept c certificate m.pc i f (reads_port c image (m.pc + 1)))
    (v : Control c image certificate m.pc m.depth stack m.mode m.posted)
    (top : level_of (mark_at certificate 0) ≤ 63) where
  -- at a successor: one more address on the stack where it is reached by call
  lands : (a : ℕ) (b : Bool) →
      successor a b ∈ successors f m.pc i.value →
      Spot c certificate a (pick b (m.depth + 1) m.depth) (mode_after f m.mode)
  unfolding pick
  lands a true e =
      let h = k.follows (successor a true) e in
      record {
        below = h.below;
        used = h.used;
        level = omega (arith, h.lower tt, v.here.level);
        sub = omega (arith, h.sub);
        mode = h.mode ∙ ap (mode_after f) v.here.mode;
      }
  lands a false e =
      let h = k.follows (successor a false) e in
      record {
        below = h.below;
        used = h.used;
        level = omega (arith, h.level, v.here.level);
        sub = h.sub ∙ v.here.sub;
        mode = h.mode ∙ ap (mode_after f) v.here.mode;
      }

  -- control is in normal mode
  in-normal : T (not (f.leaves || f.reveals)) → m.mode ≡ 0
  in-normal n =
      let z = normal f i.source (mode_of (mark_at certificate m.pc)) (omega arith) k.special n in omega (arith, v.here.mode)

  pushed : Spot c certificate (m.pc + 1) m.depth 0 →
      m.depth < length stack →
      (j : ℕ) →
      j < m.depth + 1 →
      Spot c certificate (get_or (set stack m.depth (m.pc + 1)) j 0) j 0
  pushed p h j b = go (dec_lt j m.depth)
    where
      go : Dec (j < m.depth) → Spot c certificate (get_or (set stack m.depth (m.pc + 1)) j 0) j 0
      go (yes l) = let n : j ≡ m.depth → ⊥ = omega arith in rw (get_or-set_other stack m.depth j (m.pc + 1) 0 n) (v.saved j l)
      go (no n) = let q : j ≡ m.depth = omega arith in rw (q, get_or-set_same stack m.depth (m.pc + 1) 0 h) p

  popped : (j : ℕ) → j < m.depth - 1 → Spot c certificate (get_or (set stack (m.depth - 1) 0) j 0) j 0
  popped j b =
      let n : j ≡ m.depth - 1 → ⊥ = omega arith in
      rw (get_or-set_other stack (m.depth - 1) j 0 0 n) (v.saved j (omega arith))

  pub moved_control : {pc depth : ℕ} {w : Option Write} {mode posted : ℕ} →
      Moves f i.value m stack pc depth w mode posted →
      Control c image certificate pc depth (put_of w stack) mode posted
  unfolding put_of pick
  moved_control (to_successor {a} e o) =
      record { here = lands a false e; saved = v.saved; places = v.places; quiet = λ z t. k.port (o z).0 (rw (o z).1 at t) }
  moved_control (to_call e n q w) =
      let s = rw (ap (mode_after f) (in-normal w) ∙ q) at (lands (m.pc + 1) false n) in
      let d : m.depth < length stack = omega (arith, (k.follows _ e).lower tt, v.here.level, v.places) in
      record {
        here = lands i.value true e;
        saved = pushed s d;
        places = length-set stack m.depth (m.pc + 1) ∙ v.places;
        quiet = λ z t. silent z;
      }
  moved_control (to_saved u n) =
      let z = in-normal n in
      let d : 0 < m.depth = omega (arith, k.return_mark u, v.here.sub) in
      record {
        here = rw z (v.saved (m.depth - 1) (omega arith));
        saved = popped;
        places = length-set stack (m.depth - 1) 0 ∙ v.places;
        quiet = λ z t. silent z;
      }
  moved_control (to_barred b) = absurd (k.free b)
