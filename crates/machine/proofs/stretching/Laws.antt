-- The loop of a run: what is left to do, after what is done, is the whole run.
-- Assumes nothing.
use Prim.Native.Nat.{ℕ, suc, ◌+◌, ◌-◌, ◌*◌, ◌%◌, ◌≤◌, ◌<◌}
use mathlib.Core.Path.{◌≡◌, refl, sym, ap, ◌∙◌}
use mathlib.Core.Bool.{Bool, true, false}
use mathlib.Core.Logic.{◌⊎◌, inl, inr}
use native.Mathlib.Nat.{zero-add, add-zero, add_assoc}
use native.Mathlib.Omega.{arith}
use borrow.Author.Tests.{eq-eqb, ne_eqb, eqb-true, eqb-false, ltb-true, ltb-false}
use lib.Dec.{eqb, ltb}
use Rattle.laws.specs.Choice.{pick}
use Rattle.state.specs.declared.Change.{Change}
use Rattle.state.specs.declared.Core.{Core}
use Rattle.state.specs.State.{Env, State, state}
use Rattle.state.specs.Stops.{facts_at}
use Rattle.state.specs.Step.{Outcome, refused, applied, plan_at, cycles_of, advance_of}
use Rattle.state.specs.Run.{Run, ended, after, run_of}
use Rattle.state.specs.Good.{Good}
use Rattle.state.proofs.StaysValid.{stays_good}
use Rattle.state.proofs.Run.{step_cycles}
use Rattle.cells.specs.Cell.{action_in, value_in}
use Rattle.machine.specs.declared.Decision.{Decision}
use Rattle.machine.specs.declared.Turn.{Turn}
use Rattle.machine.specs.declared.Turns.{Turns}
use Rattle.machine.specs.Exec.{change_at}
use Rattle.machine.specs.Stepping.{End, end_of}
use Rattle.machine.specs.Stretching.{plus, SameLengths, Reached, Came, Went, Decides, Steps-by}
use Rattle.machine.proofs.advance.Laws.{carried_out, refused_by, stop_small, mode_kept}

-- the change is committed
pub committed : (e : Env) (s : State) (x : Change) (k : ℕ) (t : State) → x ≡ change_at e s → x.stop ≡ 0 → k ≡ cycles_of e.config (facts_at e s) →
    t ≡ applied x (state x.core s.stack s.registers s.memory s.addresses s.values) →
    ◌≡◌ {A = Outcome} (record { number = 0; cycles = k; state = t }) (advance_of e s)
unfolding applied
committed e s x k t p z c q = ap (λ (u : State). record { number = 0; cycles = k; state = u }) q ∙ carried_out e s x k p z c

-- One step by its cell

module _ (e : Env) (s : State) (x : ℕ) (d : Decision) (p : Decides e s x d) where
  -- a step that is not stopped is carried out by the loop
  pub has_action : d.change.stop ≡ 0 → action_in x ≡ 0 → ⊥
  has_action z a = let q : 0 ≡ 256 + value_in x % 256 = sym z ∙ ap (λ (y : Change). y.stop) (p.apart a) in omega (arith, q)

  pub change_here : d.change.stop ≡ 0 → d.change ≡ change_at e s
  change_here z = p.change (has_action z)

  pub stepped_stop : s.core.mode ≡ 0 → (d.change.stop ≡ 0 → ⊥) →
      Steps-by e s s x (record { stop = d.change.stop; cycles = 0; core = s.core })
  stepped_stop m n = go (eqb (action_in x) 0) refl
    where
      go : (b : Bool) → eqb (action_in x) 0 ≡ b → Steps-by e s s x (record { stop = d.change.stop; cycles = 0; core = s.core })
      go true q =
          let a = eqb-true (action_in x) 0 q in
          let k : d.change.stop ≡ 256 + value_in x % 256 = ap (λ (y : Change). y.stop) (p.apart a) in
          record { step = λ l. let f : ⊥ = omega (arith, k, l) in absurd f; apart = λ _. (refl, a); mode = m }
      go false q =
          let c = p.change (eqb-false (action_in x) 0 q) in
          let k : d.change.stop < 256 = rw c (stop_small e s) in
          record { step = λ _. refused_by e s d.change c n; apart = λ l. let f : ⊥ = omega (arith, k, l) in absurd f; mode = m }

  pub stepped_on : (t : State) → s.core.mode ≡ 0 → d.change.stop ≡ 0 →
      t ≡ applied d.change (state d.change.core s.stack s.registers s.memory s.addresses s.values) →
      Steps-by e s t x (record { stop = 0; cycles = d.cycles; core = d.change.core })
  unfolding applied
  stepped_on t m z q =
      let n = has_action z in
      let c = p.change n in
      let w = p.no_switch n in
      record {
        step = λ _. committed e s d.change d.cycles t c z (p.cycles n z) q;
        apart = λ l. let f : ⊥ = omega (arith, l) in absurd f;
        mode = ap (λ (u : State). u.core.mode) q ∙ (mode_kept e s d.change c z w.0 w.1 ∙ m);
      }

run_more : (e : Env) (s : State) (k : ℕ) → (advance_of e s).number ≡ 0 →
    run_of (suc k) e s ≡ after s (advance_of e s).cycles (run_of k e (advance_of e s).state)
unfolding run_of pick
run_more e s k h = rw (eq-eqb _ _ h)

run_stop : (e : Env) (s : State) (k : ℕ) → ((advance_of e s).number ≡ 0 → ⊥) → run_of (suc k) e s ≡ ended (advance_of e s).number s
unfolding run_of pick
run_stop e s k h = rw (ne_eqb _ _ h)

plus_plus : (n c m d : ℕ) (x : End) → plus n c (plus m d x) ≡ plus (n + m) (c + d) x
plus_plus n c m d x = simp (← add_assoc)

-- a refused step leaves the state
kept : (e : Env) (s : State) → ((advance_of e s).number ≡ 0 → ⊥) → (advance_of e s).state ≡ s
unfolding advance_of pick
kept e s h = go (eqb (Rattle.state.specs.Step.number e s) 0) refl h
  where
    go : (b : Bool) → eqb (Rattle.state.specs.Step.number e s) 0 ≡ b →
        ((pick b (record { number = 0; cycles = cycles_of e.config (facts_at e s); state = applied (plan_at e s) s }) (refused (Rattle.state.specs.Step.number e s) s)).number ≡ 0 → ⊥) →
        (pick b (record { number = 0; cycles = cycles_of e.config (facts_at e s); state = applied (plan_at e s) s }) (refused (Rattle.state.specs.Step.number e s) s)).state ≡ s
    go true q n = absurd (n refl)
    go false q n = refl

pub reached_start : (e : Env) (s : State) → Good e s → Reached e s s 0 0
reached_start e s g =
    record {
      good = g;
      bound = omega arith;
      lengths = record { stack = refl; registers = refl; memory = refl; addresses = refl; values = refl };
      whole = λ n. simp zero-add;
    }

-- a stop is that of the state it is told of, which it leaves
stop_of : (e : Env) (s : State) (m : ℕ) → ((advance_of e s).number ≡ 0 → ⊥) →
    end_of (run_of (suc m) e s) ≡ end_of (ended (advance_of e s).number s)
stop_of e s m h = ap (λ (r : Run). end_of r) (run_stop e s m h)

join_lengths : {s t u : State} → SameLengths s t → SameLengths t u → SameLengths s u
join_lengths p q =
    record {
      stack = q.stack ∙ p.stack;
      registers = q.registers ∙ p.registers;
      memory = q.memory ∙ p.memory;
      addresses = q.addresses ∙ p.addresses;
      values = q.values ∙ p.values;
    }

module _ (e : Env) (s₀ s : State) (steps cycles : ℕ) (g : Reached e s₀ s steps cycles) where
  -- a step more
  pub reached_more : (o : Outcome) → o ≡ advance_of e s → o.number ≡ 0 → SameLengths s o.state →
      Reached e s₀ o.state (steps + 1) (cycles + o.cycles)
  reached_more o q z l =
      let pass : (advance_of e s).number ≡ 0 = ap (λ (t : Outcome). t.number) (sym q) ∙ z in
      let three : o.cycles ≤ 3 = rw q (step_cycles e s pass).most in
      record {
        good = rw q (stays_good e s g.good);
        bound = omega (arith, g.bound, three);
        lengths = join_lengths g.lengths l;
        whole = λ n.
            let num : steps + suc n ≡ steps + 1 + n = omega arith in
            rw q
            (sym (plus_plus steps cycles 1 (advance_of e s).cycles (end_of (run_of n e (advance_of e s).state))) ∙
            (ap (λ (r : Run). plus steps cycles (end_of r)) (sym (run_more e s n pass)) ∙
            (g.whole (suc n) ∙ ap (λ (k : ℕ). end_of (run_of k e s₀)) num)));
      }

  pub more_cycles : (o : Outcome) → o ≡ advance_of e s → o.number ≡ 0 → cycles + o.cycles ≤ 3 * (steps + 1)
  more_cycles o q z =
      let three : o.cycles ≤ 3 = rw q (step_cycles e s (ap (λ (t : Outcome). t.number) (sym q) ∙ z)).most in
      omega (arith, g.bound, three)

  -- the next step is stopped
  pub reached_stop : (budget n : ℕ) → (advance_of e s).number ≡ n → (n ≡ 0 → ⊥) → steps < budget →
      ◌≡◌ {A = End} (record { number = n; steps = steps; cycles = cycles; last = s }) (end_of (run_of budget e s₀))
  reached_stop budget n q z h =
      let m = budget - steps - 1 in
      let num : steps + suc m ≡ budget = omega arith in
      let halt : end_of (run_of (suc m) e s) ≡ end_of (ended n s) = stop_of e s m (λ u. z (sym q ∙ u)) ∙ ap (λ (k : ℕ). end_of (ended k s)) q in
      (simp add-zero at (sym (ap (plus steps cycles) halt))) ∙ (g.whole (suc m) ∙ ap (λ (k : ℕ). end_of (run_of k e s₀)) num)

  -- the budget is spent
  pub reached_done : (budget : ℕ) → steps ≡ budget → ◌≡◌ {A = End} (record { number = 0; steps = steps; cycles = cycles; last = s }) (end_of (run_of budget e s₀))
  unfolding run_of
  reached_done budget q = simp add-zero at (g.whole 0) ∙ ap (λ (k : ℕ). end_of (run_of k e s₀)) q

  -- further steps
  pub reached_join : (t : State) (k c : ℕ) → Reached e s t k c → Reached e s₀ t (steps + k) (cycles + c)
  reached_join t k c h =
      record {
        good = h.good;
        bound = omega (arith, g.bound, h.bound);
        lengths = join_lengths g.lengths h.lengths;
        whole = λ n.
            let num : steps + (k + n) ≡ steps + k + n = omega arith in
            sym (plus_plus steps cycles k c (end_of (run_of n e t))) ∙
            (ap (plus steps cycles) (h.whole n) ∙ (g.whole (k + n) ∙ ap (λ (m : ℕ). end_of (run_of m e s₀)) num));
      }

  -- a stopped step, told of the state that it left
  pub stopped_at : (o : Outcome) → o ≡ advance_of e s → (o.number ≡ 0 → ⊥) → Reached e s₀ o.state steps cycles × ((advance_of e o.state).number ≡ o.number)
  stopped_at o q z =
      let num : (advance_of e s).number ≡ o.number = ap (λ (t : Outcome). t.number) (sym q) in
      let same : o.state ≡ s = ap (λ (t : Outcome). t.state) q ∙ kept e s (λ u. z (sym num ∙ u)) in
      (rw same g, rw same num)

-- no step at all leaves the state
pub reached_none : (e : Env) (s t : State) (steps cycles : ℕ) → Reached e s t steps cycles → steps ≡ 0 → t ≡ s
unfolding run_of
reached_none e s t steps cycles g z =
    let q : steps + 0 ≡ 0 = omega (arith, z) in
    ap (λ (x : End). x.last) (g.whole 0) ∙ ap (λ (k : ℕ). (end_of (run_of k e s)).last) q

-- How far a stretch came

module _ (here : ℕ → ℕ) (budget : ℕ) (e : Env) (s₀ s : State) (steps cycles : ℕ) (g : Reached e s₀ s steps cycles) (normal : s.core.mode ≡ 0) where
  -- before a step that is stopped or made apart
  pub came_stopped : (t : State) (r : Turn) → Steps-by e s t (here s.core.pc) r → (r.stop ≡ 0 → ⊥) → steps < budget →
      Came here budget e s₀ t (record { stop = r.stop; steps = steps; cycles = cycles; core = r.core })
  came_stopped t r p z h = go (ltb r.stop 256) refl
    where
      go : (b : Bool) → ltb r.stop 256 ≡ b → Came here budget e s₀ t (record { stop = r.stop; steps = steps; cycles = cycles; core = r.core })
      go true q =
          let l = ltb-true r.stop 256 q in
          let x = stopped_at e s₀ s steps cycles g (record { number = r.stop; cycles = r.cycles; state = t }) (p.step l) z in
          record {
            few = omega (arith, h);
            reached = x.0;
            mode = p.mode;
            stopped = λ _ _. (h, x.1);
            finished = λ u. absurd (z u);
            apart = λ m. let f : ⊥ = omega (arith, m, l) in absurd f;
          }
      go false q =
          let l = ltb-false r.stop 256 q in
          let x = p.apart l in
          record {
            few = omega (arith, h);
            reached = rw x.0 g;
            mode = p.mode;
            stopped = λ _ m. let f : ⊥ = omega (arith, m, l) in absurd f;
            finished = λ u. absurd (z u);
            apart = λ _. (h, rw x.0 x.1);
          }

-- One step

-- that leads on
pub went_by : (budget : ℕ) (e : Env) (s t : State) (cycles : ℕ) (core : Core) → Good e s → SameLengths s t →
    ◌≡◌ {A = Outcome} (record { number = 0; cycles = cycles; state = t }) (advance_of e s) → 0 < budget →
    Went budget e s t (record { stop = 0; steps = 1; cycles = cycles; core = core })
went_by budget e s t cycles core g l q h =
    let r : Reached e s t 1 cycles = rw (zero-add cycles) at (reached_more e s s 0 0 (reached_start e s g) (record { number = 0; cycles = cycles; state = t }) q refl l) in
    record {
      few = h;
      reached = r;
      stopped = λ n. absurd (n refl);
      apart = λ m. let f : ⊥ = omega (arith, m) in absurd f;
      some = λ _. omega arith;
    }

-- that is stopped
pub went_stopped : (budget : ℕ) (e : Env) (s : State) (stop : ℕ) (core : Core) → Good e s → (advance_of e s).number ≡ stop → (stop ≡ 0 → ⊥) → stop < 256 →
    0 < budget → Went budget e s s (record { stop = stop; steps = 0; cycles = 0; core = core })
went_stopped budget e s stop core g q n l h =
    record {
      few = omega arith;
      reached = reached_start e s g;
      stopped = λ _ _. (h, q);
      apart = λ m. let f : ⊥ = omega (arith, m, l) in absurd f;
      some = none;
    }
  where
    none : (stop ≡ 0) ⊎ (256 ≤ stop) → 0 < 0
    none (inl z) = absurd (n z)
    none (inr m) = let f : ⊥ = omega (arith, m, l) in absurd f

-- and a stretch over cells that have its cell
pub went_came : (here : ℕ → ℕ) (budget : ℕ) (e : Env) (s t : State) (r : Turns) → Came here budget e s t r → (action_in (here s.core.pc) ≡ 0 → ⊥) → 0 < budget →
    Went budget e s t r
went_came here budget e s t r c n h =
    record { few = c.few; reached = c.reached; stopped = c.stopped; apart = λ m. (c.apart m).0; some = some_step }
  where
    some_step : (r.stop ≡ 0) ⊎ (256 ≤ r.stop) → 0 < r.steps
    some_step (inl z) = let q = c.finished z in omega (arith, q, h)
    some_step (inr m) = go (eqb r.steps 0) refl
      where
        go : (b : Bool) → eqb r.steps 0 ≡ b → 0 < r.steps
        go true q =
            let same = reached_none e s t r.steps r.cycles c.reached (eqb-true r.steps 0 q) in
            absurd (n (rw same at (c.apart m).1))
        go false q = let z = eqb-false r.steps 0 q in omega (arith, z)

-- one step is a run of one
pub went_run : (e : Env) (s t : State) (r : Turns) → Went 1 e s t r →
    ◌≡◌ {A = End} (record { number = r.stop; steps = r.steps; cycles = r.cycles; last = t }) (end_of (run_of 1 e s))
went_run e s t r w = go (eqb r.stop 0) refl
  where
    small : r.stop < 256
    small = by (ltb r.stop 256) refl
      where
        by : (b : Bool) → ltb r.stop 256 ≡ b → r.stop < 256
        by true q = ltb-true r.stop 256 q
        by false q =
            let m = ltb-false r.stop 256 q in
            let a = w.apart m in
            let b = w.some (inr m) in
            let f : ⊥ = omega (arith, a, b) in
            absurd f

    go : (b : Bool) → eqb r.stop 0 ≡ b → ◌≡◌ {A = End} (record { number = r.stop; steps = r.steps; cycles = r.cycles; last = t }) (end_of (run_of 1 e s))
    go true q =
        let z = eqb-true r.stop 0 q in
        let n = w.some (inl z) in
        let l = w.few in
        rw z (reached_done e s t r.steps r.cycles w.reached 1 (omega (arith, n, l)))
    go false q =
        let z = eqb-false r.stop 0 q in
        let x = w.stopped z small in
        reached_stop e s t r.steps r.cycles w.reached 1 r.stop x.1 z x.0

-- A run that goes on to a stop
pub run_ends : (e : Env) (s₀ s : State) (steps cycles budget : ℕ) → Reached e s₀ s steps cycles → steps < budget → (t : State) (r : Turns) →
    Went (budget - steps) e s t r → (r.stop ≡ 0 → ⊥) → r.stop < 256 →
    ◌≡◌ {A = End} (record { number = r.stop; steps = steps + r.steps; cycles = cycles + r.cycles; last = t }) (end_of (run_of budget e s₀))
run_ends e s₀ s steps cycles budget g more t r w z l =
    let x = w.stopped z l in
    reached_stop e s₀ t (steps + r.steps) (cycles + r.cycles) (reached_join e s₀ s steps cycles g t r.steps r.cycles w.reached) budget r.stop x.1 z
    (omega (arith, x.0))

-- or to the image's end
pub image_ends : (e : Env) (s₀ s : State) (steps cycles budget : ℕ) → Reached e s₀ s steps cycles → steps < budget → (advance_of e s).number ≡ 4 →
    ◌≡◌ {A = End} (record { number = 4; steps = steps; cycles = cycles; last = s }) (end_of (run_of budget e s₀))
image_ends e s₀ s steps cycles budget g more q = reached_stop e s₀ s steps cycles g budget 4 q (λ z. omega (arith, z)) more
