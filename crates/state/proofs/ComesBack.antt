-- A RETWP that meets what a JSRWP stored brings back what was before the call; step and run calls go along the steps that are carried out.
-- Assumes nothing.
use Prim.Native.Nat.{ℕ, zero, suc, ◌+◌, ◌*◌, ◌%◌, ◌≤◌, ◌<◌}
use mathlib.Core.Path.{◌≡◌, refl, sym, ap, subst, ◌∙◌}
use mathlib.Core.Bool.{Bool, true, false}
use mathlib.Core.List.{List, [], ◌∷◌, ◌++◌}
use native.Mathlib.Nat.{add-zero}
use native.Mathlib.Omega.{arith}
use borrow.Author.Tests.{eqb-true, eqb-false}
use lib.Dec.{eqb, eqb→eq}
use lib.Seq.{get_or-set_same}
use Rattle.laws.specs.Choice.{pick, either}
use Rattle.laws.specs.First.{first_failing, Every}
use Rattle.words.specs.Kinds.{enter_bank, leave_bank}
use Rattle.state.specs.declared.Core.{Core}
use Rattle.state.specs.State.{Env, State}
use Rattle.state.specs.Ranges.{guards, run_guards}
use Rattle.state.specs.Operands.{view_of}
use Rattle.state.specs.Context.{context_of, wp_in, n_in, z_in, mask_in, address_in}
use Rattle.state.specs.Plans.{plan_of, enter_bank_plan, leave_bank_plan}
use Rattle.state.specs.Stops.{parts_at, kind_at}
use Rattle.state.specs.Step.{put_of, applied, plan_at, advance_of, step_of}
use Rattle.state.specs.Run.{Run, ended, after, run_of, run_call}
use Rattle.state.specs.Calls.{Call, step, run, call_of}
use Rattle.state.specs.Good.{Good}
use Rattle.state.specs.ComesBack.{JSRWP, RETWP, CarriesOut, after_step, Reaches, here, onward, register_zero, Restored, ComesBack, Entered, Taken, GoesByZero, left_by, GoesAlong}
use Rattle.state.proofs.Ranges.{bounds, accepted, passes}
use Rattle.state.proofs.Stops.{told}
use Rattle.state.proofs.StaysValid.{lands, stays_good}
use Rattle.state.proofs.Unchanged.{refused_stays}
use Rattle.state.proofs.Calls.{step_accepted, step_taken, step_applies, run_refused}

-- what a JSRWP leaves: WP at the bank that its word names, and the context in register zero of that bank
plan_enter : (e : Env) (s : State) → kind_at e s ≡ enter_bank → plan_at e s ≡ enter_bank_plan (view_of e s) (parts_at e s)
unfolding plan_at plan_of
plan_enter e s h = ap (plan_of (view_of e s) (parts_at e s)) h

enters : (e : Env) (s : State) → CarriesOut e JSRWP s → Entered (parts_at e s).destination s (after_step e s)
unfolding applied enter_bank_plan put_of pick
enters e s h =
    let d = step_applies e s h.done in
    let g = step_accepted e s h.done in
    let p = plan_enter e s h.kind in
    let w = 16 * (parts_at e s).destination in
    let l : w < e.config.rmsize = rw p at (lands e s g d.passed).reg in
    rw (d.made, p) (record { wp = refl; zero = get_or-set_same s.registers w (context_of s.core) 0 (rw g.registers l) })

-- what a RETWP takes from register zero
plan_leave : (e : Env) (t : State) → kind_at e t ≡ leave_bank → plan_at e t ≡ leave_bank_plan (view_of e t) (parts_at e t)
unfolding plan_at plan_of
plan_leave e t h = ap (plan_of (view_of e t) (parts_at e t)) h

takes_at : (e : Env) (t : State) → CarriesOut e RETWP t → Taken (register_zero (t.core.wp + 0) t) (after_step e t)
unfolding applied leave_bank_plan put_of pick
takes_at e t h =
    rw ((step_applies e t h.done).made, plan_leave e t h.kind) (record { pc = refl; wp = refl; n = refl; z = refl; imask = refl })

takes : (e : Env) (t : State) → CarriesOut e RETWP t → Taken (register_zero t.core.wp t) (after_step e t)
takes e t h = subst (λ w. Taken (register_zero w t) (after_step e t)) (add-zero t.core.wp) (takes_at e t h)

pub goes_by_zero : GoesByZero
goes_by_zero = record { stores = enters; takes = takes }

-- the readers take out of the context of a core what was put into it
record Reads (m : Core) (x : ℕ) : Type 0 where
  wp : wp_in x ≡ m.wp
  n : n_in x ≡ m.n
  z : z_in x ≡ m.z
  mask : mask_in x ≡ m.imask
  address : address_in x ≡ m.pc + 1

reads : (m : Core) → m.wp % 16 ≡ 0 → m.n ≤ 1 → m.z ≤ 1 → m.imask ≤ 15 → m.pc + 1 < 65536 → Reads m (context_of m)
unfolding context_of
reads m w n z i p = record { wp = omega arith; n = omega arith; z = omega arith; mask = omega arith; address = omega arith }

-- so the context says what was before the call
brings_back : (e : Env) (s u : State) → CarriesOut e JSRWP s → Taken (context_of s.core) u → Restored s u
brings_back e s u h k =
    let g = step_accepted e s h.done in
    let f = g.core.flags in
    let p : s.core.pc + 1 < 65536 = omega (arith, (told e s (step_applies e s h.done).passed).pc, (bounds e.config g.lawful).image) in
    let r = reads s.core g.core.bank.whole f.negative f.zero g.core.masks.now p in
    record { pc = k.pc ∙ r.address; wp = k.wp ∙ r.wp; n = k.n ∙ r.n; z = k.z ∙ r.z; imask = k.imask ∙ r.mask }

pub comes_back : ComesBack
comes_back e s t h =
    let a = enters e s h.call in
    let stored = ap (λ w. register_zero w (after_step e s)) a.wp ∙ a.zero in
    let x = ap (λ w. register_zero w t) h.wp ∙ h.zero ∙ stored in
    brings_back e s (after_step e t) h.call (subst (λ y. Taken y (after_step e t)) x (takes e t h.return))

-- calls go along

joins : (e : Env) (s t u : State) → Reaches e s t → Reaches e t u → Reaches e s u
joins e s t u (here x) q = q
joins e s t u (onward x y z p) q = onward s u z (joins e (after_step e s) t u p q)

same : (e : Env) (s t : State) → t ≡ s → Reaches e s t
same e s t q = rw q (here s)

step_goes : (e : Env) (s : State) → Reaches e s (after_step e s)
step_goes e s = go (eqb (step_of e s).number 0) refl
  where
    go : (b : Bool) → eqb (step_of e s).number 0 ≡ b → Reaches e s (after_step e s)
    go true q = onward s (after_step e s) (eqb-true (step_of e s).number 0 q) (here (after_step e s))
    go false q = same e s (after_step e s) (refused_stays e s (eqb-false (step_of e s).number 0 q))

-- the states that a run steps from and the one that it leaves
abbrev Between : Env → State → State → List State → Type 0
Between e s last = Every (λ t. Reaches e s t × Reaches e t last)

record Goes (e : Env) (s : State) (r : Run) : Type 0 where
  last : Reaches e s r.last
  through : Between e s r.last (r.seen ++ (r.last ∷ []))

stays : (e : Env) (s : State) (n : ℕ) → Goes e s (ended n s)
stays e s n = record { last = here s; through = ((here s, here s), tt) }

-- what is between t and the last state is between s and it, where t is reached from s
from_before : (e : Env) (s t last : State) (l : List State) → Reaches e s t → Between e t last l → Between e s last l
from_before e s t last [] r b = tt
from_before e s t last (x ∷ l) r b = ((joins e s t x r b.0.0, b.0.1), from_before e s t last l r b.1)

-- a step that was carried out, and then a run
goes_on : (e : Env) (s : State) (r : Run) → Good e s → (advance_of e s).number ≡ 0 → Goes e (advance_of e s).state r → Goes e s (after s (advance_of e s).cycles r)
goes_on e s r g z h =
    let q = step_taken e s (first_failing (guards e s)) refl (passes e s g) in
    let t = (advance_of e s).state in
    let one : Reaches e s t = onward s t (sym (ap (λ o. o.number) q) ∙ z) (same e (after_step e s) t (ap (λ o. o.state) q)) in
    let whole = joins e s t r.last one h.last in
    record { last = whole; through = ((here s, whole), from_before e s t r.last (r.seen ++ (r.last ∷ [])) one h.through) }

steps_go : (k : ℕ) (e : Env) (s : State) → Good e s → Goes e s (run_of k e s)
unfolding run_of
steps_go zero e s g = stays e s 0
steps_go (suc k) e s g =
    let o = advance_of e s in
    either (Goes e s) (eqb o.number 0) (after s o.cycles (run_of k e o.state)) (ended o.number s)
    (λ u. goes_on e s (run_of k e o.state) g (eqb→eq o.number 0 u) (steps_go k e o.state (stays_good e s g)))
    (λ f. stays e s o.number)

run_goes : (budget : ℕ) (e : Env) (s : State) → Goes e s (run_call budget e s)
unfolding run_call
run_goes budget e s = go (eqb (first_failing (guards e s)) 0) refl
  where
    go : (b : Bool) → eqb (first_failing (guards e s)) 0 ≡ b → Goes e s (run_call budget e s)
    go true q =
        let n = first_failing (run_guards budget e s) in
        let g = accepted e s (eqb-true (first_failing (guards e s)) 0 q) in
        either (Goes e s) (eqb n 0) (run_of budget e s) (ended n s) (λ u. steps_go budget e s g) (λ f. stays e s n)
    go false q =
        let n = eqb-false (first_failing (guards e s)) 0 q in
        subst (Goes e s) (run_refused e s budget (first_failing (guards e s)) refl n) (stays e s (first_failing (guards e s)))

call_goes : (e : Env) (c : Call) (s : State) → Reaches e s (call_of e c s).last
unfolding call_of
call_goes e step s = step_goes e s
call_goes e (run budget) s = (run_goes budget e s).last

call_through : (e : Env) (c : Call) (s : State) → Between e s (call_of e c s).last (call_of e c s).through
unfolding call_of
call_through e step s = ((here s, step_goes e s), ((step_goes e s, here (after_step e s)), tt))
call_through e (run budget) s = (run_goes budget e s).through

calls_go : (e : Env) (cs : List Call) (s : State) → Reaches e s (left_by e cs s)
calls_go e [] s = here s
calls_go e (c ∷ cs) s = let t = (call_of e c s).last in joins e s t (left_by e cs t) (call_goes e c s) (calls_go e cs t)

pub goes_along : GoesAlong
goes_along = record { calls = calls_go; through = call_through; joins = joins }
