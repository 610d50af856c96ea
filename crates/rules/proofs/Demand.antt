-- Demand 3: the invariant holds at reset, along every run and along every list of calls.
-- Assumes nothing.
use Prim.Native.Nat.{ℕ, zero, suc, ◌+◌, ◌<◌, ◌≤◌}
use mathlib.Core.Path.{◌≡◌, refl, ◌∙◌, sym, ap}
use mathlib.Core.List.{List, [], ◌∷◌, ◌++◌}
use native.Mathlib.Omega.{arith}
use lib.Dec.{eqb, leb, not_T, nleb→lt}
use lib.ListN.{length, replicate, length-replicate}
use Rattle.laws.specs.Choice.{pick_yes, either}
use Rattle.laws.specs.Test.{Below, eq→eqb}
use Rattle.laws.specs.First.{Every, first_failing, skip}
use Rattle.words.specs.declared.Config.{Config}
use Rattle.state.specs.State.{Env, State, env, top}
use Rattle.state.specs.Ranges.{guards, budget_fits, run_guards}
use Rattle.state.specs.Step.{refused, advance_of, step_of}
use Rattle.state.specs.Run.{Run, ended, after, run_of, run_call}
use Rattle.state.specs.Calls.{Call, step, run, Done, call_of}
use Rattle.state.specs.Good.{Good}
use Rattle.state.proofs.Ranges.{bounds, top_byte, good, valid, passes}
use Rattle.rules.specs.Marks.{mark_at, level_of}
use Rattle.rules.specs.Check.{check_of, passed, Passes}
use Rattle.rules.specs.Calls.{trace}
use Rattle.rules.specs.Demand.{May, no_data, no_input, no_room, not_loaded, too_long, Fine, at_reset, Demand3}
use Rattle.rules.specs.Demand as demand
use Rattle.rules.specs.Invariant.{Invariant}
use Rattle.rules.proofs.Exact.{exact}
use Rattle.rules.proofs.Stepping.{Allows, start, advanced_keeps, advanced_allowed, low}

-- the level that a pass answers is the level at address 0
pub passed_level : (c : Config) (image certificate : List ℕ) (l : ℕ) → check_of c image certificate ≡ passed l → level_of (mark_at certificate 0) ≡ l
passed_level c image certificate l pass =
    let x = exact c image certificate in
    ap (λ a. a.level) (sym (x.complete (x.sound (ap (λ a. a.number) pass))) ∙ pass)

-- a fact of every state of a list, and of one more
every_last : (P : State → Type 0) (ss : List State) (s : State) → Every P ss → P s → Every P (ss ++ (s ∷ []))
every_last P [] s h p = (p, tt)
every_last P (x ∷ ss) s h p = (h.0, every_last P ss s h.1 p)

zeros_below : (b n : ℕ) → 0 < b → Below b (replicate n 0)
zeros_below b zero h = tt
zeros_below b (suc n) h = (h, zeros_below b n h)

-- what a step may answer
may : {c : Call} → Allows (May c)
may = record { pass = demand.passes; address = no_data; input = no_input; room = no_room; index = not_loaded }

module _ (e : Env) (certificate : List ℕ) (ok : Passes e.config e.image certificate) where
  abbrev Low : State → Type 0
  Low s = s.core.depth ≤ level_of (mark_at certificate 0)

  -- a run goes well: its number is allowed, the stack is low in every state it steps from, and the invariant holds where it ends
  pub record Well (c : Call) (r : Run) : Type 0 where
    pub number : May c r.number
    pub seen : Every Low r.seen
    pub last : Invariant e certificate r.last

  pub run_well : (c : Call) (budget : ℕ) (s : State) → Invariant e certificate s → Well c (run_of budget e s)
  unfolding run_of
  run_well c zero s v = record { number = demand.passes; seen = tt; last = v }
  run_well c (suc k) s v =
      let o = advance_of e s in
      let h = run_well c k o.state (advanced_keeps e certificate ok s v) in
      either (Well c) (eqb o.number 0) (after s o.cycles (run_of k e o.state)) (ended o.number s)
      (λ t. record { number = h.number; seen = (low e certificate ok s v, h.seen); last = h.last })
      (λ f. record { number = advanced_allowed e certificate ok s v (May c) may; seen = tt; last = v })

  -- so does a run call: of 1, 2, 3 and 16 only 16 can refuse it, where its budget is too large
  budget_allowed : (budget : ℕ) → May (run budget) (first_failing ((16, budget_fits budget) ∷ []))
  budget_allowed budget =
      either (May (run budget)) (leb budget 1000000) 0 16 (λ t. demand.passes)
      (λ f. too_long (nleb→lt budget 1000000 (not_T (leb budget 1000000) f)))

  pub run_call_well : (budget : ℕ) (s : State) → Invariant e certificate s → Well (run budget) (run_call budget e s)
  unfolding run_call
  run_call_well budget s v =
      let n = first_failing (run_guards budget e s) in
      let m : May (run budget) n = rw (skip (guards e s) ((16, budget_fits budget) ∷ []) v.valid) (budget_allowed budget) in
      either (Well (run budget)) (eqb n 0) (run_of budget e s) (ended n s) (λ t. run_well (run budget) budget s v)
      (λ f. record { number = m; seen = tt; last = v })

  -- a call goes well
  pub record Good-call (c : Call) (d : Done) : Type 0 where
    pub fine : Fine (level_of (mark_at certificate 0)) (c, d)
    pub last : Invariant e certificate d.last

  not_refused : (s : State) → Invariant e certificate s → step_of e s ≡ advance_of e s
  unfolding step_of
  not_refused s v =
      let n = first_failing (guards e s) in
      pick_yes (eqb n 0) (advance_of e s) (refused n s) (eq→eqb n 0 (passes e s (good e s v.valid)))

  pub call_well : (c : Call) (s : State) → Invariant e certificate s → Good-call c (call_of e c s)
  unfolding call_of
  call_well step s v =
      let w = advanced_keeps e certificate ok s v in
      rw (not_refused s v)
      (record {
        fine =
            record {
              answer = advanced_allowed e certificate ok s v (May step) may;
              stack = (low e certificate ok s v, (low e certificate ok (advance_of e s).state w, tt));
            };
        last = w;
      })
  call_well (run budget) s v =
      let h = run_call_well budget s v in
      let r = run_call budget e s in
      record {
        fine =
            record { answer = h.number; stack = every_last Low r.seen r.last h.seen (low e certificate ok r.last h.last) };
        last = h.last;
      }

  -- and so does every list of calls
  pub trace_fine : (calls : List Call) (s : State) → Invariant e certificate s → Every (Fine (level_of (mark_at certificate 0))) (trace e calls s)
  unfolding trace
  trace_fine [] s v = tt
  trace_fine (c ∷ calls) s v =
      let h = call_well c s v in
      (h.fine, trace_fine calls (call_of e c s).last h.last)

  -- the machine at reset
  module _ (registers memory addresses values : List ℕ)
      (rl : length registers ≡ e.config.rmsize) (rb : Below (top e.config) registers)
      (ml : length memory ≡ e.config.dmsize) (mb : Below (top e.config) memory)
      (ll : length addresses ≡ length values) where
    reset_good : Good e (at_reset registers memory addresses values)
    reset_good =
        let b = bounds e.config ok.lawful in
        let w : 0 < top e.config = omega (arith, top_byte e.config) in
        record {
          lawful = ok.lawful;
          image = ok.image_long;
          registers = rl;
          memory = ml;
          log = ll;
          core =
              record {
                pc = omega arith;
                bank = record { whole = refl; inside = omega (arith, b.one_bank) };
                indices =
                    record {
                      x = omega (arith, b.registers_some);
                      y = omega (arith, b.registers_some);
                      mark = omega arith;
                      none = λ z. (refl, refl);
                    };
                flags = record { negative = omega arith; zero = omega arith };
                high = record { word = w; none = λ z. refl };
                depth = omega arith;
                masks = record { now = omega arith; kept = omega arith; special = omega arith };
                posted = record { mark = omega arith; word = w; none = λ z. refl };
                taken = omega arith;
                logged = omega arith;
              };
          addresses = zeros_below (e.config.imsize + 1) 63 (omega arith);
          zeros = zeros_below 1 63 (omega arith);
          cells = rb;
          words = mb;
        }

    pub reset_holds : Invariant e certificate (at_reset registers memory addresses values)
    reset_holds =
        let z = start e certificate ok in
        record {
          control =
              record {
                here =
                    record {
                      below = (bounds e.config ok.lawful).image_some;
                      used = z.used;
                      level = omega arith;
                      sub = omega (arith, z.main);
                      mode = z.normal;
                    };
                saved = λ j h. let x : ⊥ = omega arith in absurd x;
                places = length-replicate {A = ℕ} 63 0;
                quiet = λ q t. omega arith;
              };
          valid = valid e (at_reset registers memory addresses values) reset_good;
        }

-- the user's demand 3
pub demand_3 : Demand3
demand_3 c image certificate l pass inputs registers memory addresses values rl rb ml mb ll calls =
    let e = env c image inputs in
    let ok = (exact c image certificate).sound (ap (λ a. a.number) pass) in
    rw (← passed_level c image certificate l pass)
    (trace_fine e certificate ok calls (at_reset registers memory addresses values)
    (reset_holds e certificate ok registers memory addresses values rl rb ml mb ll))
