-- Demand 3 of the C interface's calls: the state in the lists goes from call to call as the definitions have it.
-- Assumes nothing.
use mathlib.Core.Path.{◌≡◌, refl}
use mathlib.Core.List.{List, [], ◌∷◌}
use Prim.Native.Nat.{ℕ, ◌<◌, ◌≤◌}
use native.Mathlib.Omega.{arith}
use lib.ListN.{length}
use Rattle.laws.specs.Choice.{pick}
use Rattle.laws.specs.First.{Every}
use Rattle.state.specs.State.{Env, env}
use Rattle.state.specs.Calls.{Call}
use Rattle.state.proofs.Ranges.{good}
use Rattle.rules.specs.Marks.{mark_at, level_of}
use Rattle.rules.specs.Check.{Passes}
use Rattle.rules.specs.Demand.{at_reset}
use Rattle.rules.specs.Invariant.{Invariant}
use Rattle.rules.proofs.Exact.{exact}
use Rattle.rules.proofs.Stepping.{low}
use Rattle.rules.proofs.Demand.{call_well, reset_holds}
use Rattle.yam_c.specs.Flat.{stored, cell, config_of}
use Rattle.yam_c.specs.Calls.{check_left}
use Rattle.yam_c.specs.Claims.{Held, state_in, left_by, call_with, answered, Allowed, held_at_reset, Demand3Lists}
use Rattle.yam_c.proofs.Machines.{machine_in}
use Rattle.yam_c.proofs.HandsOn.{good_shaped, reset_back, agrees}

module _ (config image inputs certificate : List ℕ) (ok : Passes (config_of config) image certificate) where
  abbrev e : Env
  e = env (config_of config) image inputs

  all_allowed : (cs : List (Call × List ℕ)) (h : Held) → Invariant e certificate (state_in h) →
      Every (Allowed (level_of (mark_at certificate 0))) (answered config image inputs cs h)
  unfolding answered
  all_allowed [] h v = tt
  all_allowed (c ∷ cs) h v =
      let x = call_with config image inputs h c.0 c.1 in
      let a = agrees config image inputs h c.0 c.1 in
      let w = call_well e certificate ok c.0 (state_in h) v in
      let v' : Invariant e certificate (state_in (left_by x)) = rw (← a.left) w.last in
      let d : (state_in (left_by x)).core.depth ≤ level_of (mark_at certificate 0) = low e certificate ok (state_in (left_by x)) v' in
      let words = machine_in x.machine (good_shaped e (left_by x) (good e (state_in (left_by x)) v'.valid)) in
      (record { number = rw (← a.number) w.fine.answer; stack = rw words at d }, all_allowed cs (left_by x) v')

-- the first answer of a check that passes is the level at address 0
first_answer : (l k : ℕ) (answers : List ℕ) → 0 < length answers → cell (stored answers 0 (l ∷ k ∷ [])) 0 ≡ l
unfolding stored
first_answer l k [] h = let z : ⊥ = omega (arith, h) in absurd z
first_answer l k (x ∷ []) h = refl
first_answer l k (x ∷ (y ∷ ys)) h = refl

pub demand_3_lists : Demand3Lists
unfolding check_left pick
demand_3_lists config image certificate answers f pass some n inputs registers memory addresses values rl rb ml mb ll calls =
    let x = exact (config_of config) image certificate in
    let ok = x.sound pass in
    let e = env (config_of config) image inputs in
    let l = level_of (mark_at certificate 0) in
    let held = held_at_reset f (at_reset registers memory addresses values) in
    let start : Invariant e certificate (state_in held) =
    rw (reset_back f n) (reset_holds e certificate ok registers memory addresses values rl rb ml mb ll) in
    rw (x.complete ok, first_answer l 0 answers some) (all_allowed config image inputs certificate ok calls held start)
