-- A machine's words, part by part. Assumes nothing.
use mathlib.Core.Path.{◌≡◌, refl, sym, ◌∙◌}
use mathlib.Core.Bool.{Bool, true, false}
use mathlib.Core.List.{List, [], ◌∷◌, ◌++◌}
use Prim.Native.Nat.{ℕ, ◌+◌, ◌≤◌}
use native.Mathlib.Omega.{arith}
use borrow.Author.Tests.{eq-eqb, ne_eqb}
use lib.Dec.{eqb}
use lib.ListN.{length, set, take, drop, replicate, length-append, length-drop, take-append-drop}
use lib.Seq.{take_all, length-take-le, drop-drop, drop_at, drop-cons, set_at, sets-eq}
use Rattle.laws.specs.Choice.{pick, pick_yes, true_is}
use Rattle.laws.specs.Test.{test, Holds, holds, tests, Below}
use Rattle.state.specs.declared.Core.{Core}
use Rattle.guards.specs.Joins.{join_of}
use Rattle.guards.proofs.Joins.{join_zero}
use Rattle.yam_c.specs.Flat.{stored, cell, core_words, added_words, machine_words, core_in, stack_in, shaped, machine_of, outside, updated}
use Rattle.yam_c.proofs.Storing.{stored_append, stored_all}

-- core, stack, the mark and zeros, one after the other
pub whole : (f f₁ f₂ f₃ f₄ : List ℕ) (m : Core) (stack : List ℕ) → length stack ≡ 63 → f₁ ≡ stored f 0 (core_words m) → f₂ ≡ stored f₁ 17 stack →
    f₃ ≡ set f₂ 80 m.loaded → f₄ ≡ stored f₃ 81 (replicate 19 0) → f₄ ≡ stored f 0 (machine_words m stack)
unfolding machine_words stored
whole f f₁ f₂ f₃ f₄ m stack h a b d z =
    let e : 17 + length stack ≡ 80 = omega arith in
    let all = stored_append f 0 (core_words m) (stack ++ added_words m) ∙ stored_append (stored f 0 (core_words m)) 17 stack (added_words m) in
    sym (all ∙ rw (e, ← a, ← b, ← d, ← z))

-- the form of a list of a hundred words, by the joined bits of the last nineteen
pub shaped_by : (f : List ℕ) (r : ℕ) → length f ≡ 100 → r ≡ join_of (take 19 (drop 81 f)) → eqb r 0 ≡ test (shaped f)
shaped_by f r h e =
    let rest : take 19 (drop 81 f) ≡ drop 81 f = take_all 19 (drop 81 f) (omega (arith, h, length-drop 81 f)) in
    rw (e, rest, eq-eqb (length f) 100 h) (join_zero (drop 81 f))

pub unshaped : (f : List ℕ) → (length f ≡ 100 → ⊥) → false ≡ test (shaped f)
unshaped f h = rw (ne_eqb (length f) 100 h)

zeros : (xs : List ℕ) → Below 1 xs → xs ≡ replicate (length xs) 0
zeros [] h = refl
zeros (x ∷ xs) h =
    let z : x ≡ 0 = omega (arith, h.0) in
    rw (z, ← zeros xs h.1)

-- words 0 to 16, the return stack, the mark and the last nineteen are the whole list
module _ (f : List ℕ) (shape : Holds (shaped f)) where
  head_length : length (take 17 f) ≡ 17
  head_length = length-take-le 17 f (omega (arith, shape.0))

  pub stack_length : length (stack_in f) ≡ 63
  stack_length = length-take-le 63 (drop 17 f) (omega (arith, shape.0, length-drop 17 f))

  tail_added : drop 80 f ≡ cell f 80 ∷ replicate 19 0
  tail_added =
      let n : length (drop 81 f) ≡ 19 = omega (arith, shape.0, length-drop 81 f) in
      let z : drop 81 f ≡ replicate 19 0 = zeros (drop 81 f) shape.1 ∙ rw n in
      drop-cons f 80 0 (omega (arith, shape.0)) ∙ rw z

  in_parts : take 17 f ++ (stack_in f ++ drop 63 (drop 17 f)) ≡ f
  in_parts = rw (take-append-drop 63 (drop 17 f)) (take-append-drop 17 f)

  -- the core and its mark stored beside another return stack: these are all words of the machine
  core_stored : (m : Core) (stack : List ℕ) → length stack ≡ 63 →
      set (stored (take 17 f ++ (stack ++ drop 80 f)) 0 (core_words m)) 80 m.loaded ≡ stored f 0 (machine_words m stack)
  unfolding stored machine_words
  core_stored m stack h =
      let n : 17 ≤ length (take 17 f ++ (stack ++ drop 80 f)) = omega (arith, length-append (take 17 f) (stack ++ drop 80 f), head_length) in
      let k : length f ≡ length (machine_words m stack) = omega (arith, shape.0, h, length-append stack (added_words m)) in
      let laid : stored (take 17 f ++ (stack ++ drop 80 f)) 0 (core_words m) ≡ core_words m ++ (stack ++ (cell f 80 ∷ replicate 19 0)) =
      sets-eq (core_words m) (take 17 f ++ (stack ++ drop 80 f)) 0 n ∙ rw (drop_at (take 17 f) (stack ++ drop 80 f) 17 head_length, tail_added) in
      let marked : set (stack ++ (cell f 80 ∷ replicate 19 0)) 63 m.loaded ≡ stack ++ added_words m =
      set_at stack (cell f 80) (replicate 19 0) m.loaded 63 h in
      rw (laid, marked) (sym (stored_all f (machine_words m stack) k))

  -- a machine whose return stack was changed in place, its core stored where a step was done; where none was, the stack is as it was
  pub placed : (b : Bool) (m : Core) (stack g : List ℕ) → length stack ≡ 63 → g ≡ take 17 f ++ (stack ++ drop 63 (drop 17 f)) → (b ≡ false → stack ≡ stack_in f) →
      pick b (set (stored g 0 (core_words m)) 80 m.loaded) g ≡ updated b m stack f
  unfolding updated pick
  placed true m stack g h e k = rw (e, drop-drop 63 17 f) (core_stored m stack h)
  placed false m stack g h e k = e ∙ rw (k refl) in_parts

  pub machine_in : machine_of f ≡ record { core = core_in f; stack = stack_in f }
  unfolding machine_of
  machine_in = pick_yes (test (shaped f)) (record { core = core_in f; stack = stack_in f }) outside (tests (shaped f) shape)

-- the form of a list of words, as it was tested
module _ (f : List ℕ) (b : Bool) (e : b ≡ test (shaped f)) where
  pub shaped_holds : b ≡ true → Holds (shaped f)
  shaped_holds h = holds (shaped f) (true_is (test (shaped f)) (sym e ∙ h))

  pub machine_out : b ≡ false → machine_of f ≡ outside
  unfolding machine_of pick
  machine_out h = rw (sym e ∙ h)
