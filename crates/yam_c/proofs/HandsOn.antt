-- The next call reads the state that the last one left, and so demand 3 holds of lists of calls.
-- Assumes nothing.
use mathlib.Core.Path.{◌≡◌, refl, ◌∙◌, sym, ap}
use mathlib.Core.Bool.{Bool, true, false}
use mathlib.Core.List.{List}
use Prim.Native.Nat.{ℕ, ◌<◌}
use native.Mathlib.Omega.{arith}
use borrow.Author.Tests.{eq-eqb, eqb-true, eqb-false, ltb-true}
use lib.Dec.{eqb, ltb}
use lib.ListN.{length, length-replicate}
use Rattle.laws.specs.Choice.{pick}
use Rattle.laws.specs.Test.{test, Holds}
use Rattle.state.specs.State.{Env, State, env, reset_machine}
use Rattle.state.specs.Step.{step_of}
use Rattle.state.specs.Run as Run
use Rattle.state.specs.Calls.{Call, step, run, call_of}
use Rattle.state.specs.Good.{Good}
use Rattle.state.proofs.Ranges.{good}
use Rattle.state.proofs.StaysValid.{step_valid}
use Rattle.state.proofs.Unchanged.{refused_stays}
use Rattle.state.proofs.Lengths.{step_long, run_call_long}
use Rattle.state.proofs.Calls.{step_accepted, run_did, run_leaves_good}
use Rattle.machine.specs.Stepping.{end_of, machine_state}
use Rattle.yam_c.specs.Flat.{stored, config_of, shaped, machine_of, machine_words, updated}
use Rattle.yam_c.specs.Calls.{Moved, step_left, run_left, reset_call}
use Rattle.yam_c.specs.Claims.{Held, state_in, left_by, call_with, StepHandsOn, RunHandsOn}
use Rattle.yam_c.proofs.Storing.{stored_all}
use Rattle.yam_c.proofs.Machines.{stack_length, machine_in, machine_out, shaped_holds}
use Rattle.yam_c.proofs.Back.{words_length, words_back, one_word}
use Rattle.yam_c.proofs.Calls.{idle}

-- a state that 1, 2 and 3 let pass stands in a list of a hundred words, the last twenty zero
pub good_shaped : (e : Env) (h : Held) → Good e (state_in h) → Holds (shaped h.machine)
good_shaped e h g = go (test (shaped h.machine)) refl
  where
    go : (b : Bool) → b ≡ test (shaped h.machine) → Holds (shaped h.machine)
    go true q = shaped_holds h.machine true q refl
    go false q =
        let p : (machine_of h.machine).core.pc < 0x800000 = g.core.pc in
        let o : 0x800000 < 0x800000 = rw (machine_out h.machine false q refl) at p in
        let z : ⊥ = omega (arith, o) in absurd z

-- the words of a machine that were stored read back as that machine
stored_back : (e : Env) (t : State) (f : List ℕ) → Good e t → length f ≡ 100 → length t.stack ≡ 63 →
    machine_of (stored f 0 (machine_words t.core t.stack)) ≡ record { core = t.core; stack = t.stack }
stored_back e t f g n l =
    rw (stored_all f (machine_words t.core t.stack) (n ∙ sym (words_length t.core t.stack l)))
    (words_back t.core t.stack l (one_word e t g))

-- the lists after a call: where it changed the machine, t's words stand in them; else t is the state before
module _ (e : Env) (h : Held) (t : State) (b : Bool) (before : b ≡ true → Good e (state_in h)) (after : b ≡ true → Good e t)
    (long : length t.stack ≡ length (state_in h).stack) (same : b ≡ false → t ≡ state_in h) where
  abbrev now : List ℕ
  now = updated b t.core t.stack h.machine

  reads : (c : Bool) → b ≡ c → machine_state (machine_of (updated c t.core t.stack h.machine)) t.registers t.memory t.addresses t.values ≡ t
  unfolding updated pick
  reads true q =
      let shape = good_shaped e h (before q) in
      let l : length t.stack ≡ 63 = long ∙ ap (λ m. length m.stack) (machine_in h.machine shape) ∙ stack_length h.machine shape in
      ap (λ m. machine_state m t.registers t.memory t.addresses t.values) (stored_back e t h.machine (after q) shape.0 l)
  reads false q = ap (λ s. machine_state (machine_of h.machine) s.registers s.memory s.addresses s.values) (same q) ∙ sym (same q)

  pub read_next : machine_state (machine_of now) t.registers t.memory t.addresses t.values ≡ t
  read_next = reads b refl

pub step_hands_on : StepHandsOn
unfolding step_left
step_hands_on config image inputs h answers =
    let e = env (config_of config) image inputs in
    let s = state_in h in
    let o = step_of e s in
    read_next e h o.state (eqb o.number 0) (λ q. step_accepted e s (eqb-true o.number 0 q))
    (λ q. good e o.state (step_valid e s (eqb-true o.number 0 q)))
    (step_long e s)
    (λ q. refused_stays e s (eqb-false o.number 0 q))

-- the state that yam_reset leaves in its list
pub reset_back : (f : List ℕ) → length f ≡ 100 → machine_of (reset_call f).list ≡ reset_machine
unfolding reset_call pick
reset_back f n =
    let m = reset_machine.core in
    let stack = reset_machine.stack in
    let l : length stack ≡ 63 = length-replicate {A = ℕ} 63 0 in
    rw (eq-eqb (length f) 100 n, stored_all f (machine_words m stack) (n ∙ sym (words_length m stack l)))
    (words_back m stack l
    (record {
      pc = omega arith;
      wp = omega arith;
      rx = omega arith;
      ry = omega arith;
      n = omega arith;
      z = omega arith;
      spr7 = omega arith;
      depth = omega arith;
      imask = omega arith;
      saved = omega arith;
      mode = omega arith;
      posted = omega arith;
      port = omega arith;
    }))

pub run_hands_on : RunHandsOn
unfolding run_left
run_hands_on config image inputs h budget answers =
    let e = env (config_of config) image inputs in
    let s = state_in h in
    let r = Run.run_call budget e s in
    let did : ltb 0 r.steps ≡ true → Good e s = λ q. run_did e s budget (λ z. let y : ⊥ = omega (arith, z, ltb-true 0 r.steps q) in absurd y) in
    read_next e h r.last (ltb 0 r.steps) did (λ q. run_leaves_good budget e s (did q)) (run_call_long budget e s)
    (λ q. idle budget e s (end_of r) refl q)

-- a call on the lists does what the definition says of the state in them
pub record Agrees (e : Env) (s : State) (c : Call) (x : Moved) : Type 0 where
  pub number : (call_of e c s).number ≡ x.number
  pub left : (call_of e c s).last ≡ state_in (left_by x)

pub agrees : (config image inputs : List ℕ) (h : Held) (c : Call) (answers : List ℕ) →
    Agrees (env (config_of config) image inputs) (state_in h) c (call_with config image inputs h c answers)
unfolding call_of step_left run_left
agrees config image inputs h step answers = record { number = refl; left = sym (step_hands_on config image inputs h answers) }
agrees config image inputs h (run budget) answers = record { number = refl; left = sym (run_hands_on config image inputs h budget answers) }
