-- Traced steps one after another print the whole trace. Assumes nothing.
use Rattle.std.proofs.Common.{◌≡◌, ℕ, zero, suc, ◌+◌, ◌%◌, ◌^◌, ◌<◌, ◌≤◌, Bool, true, false, eqb, leb, List, [], ◌∷◌, ◌++◌, length, take, sym, refl, ap, ◌∙◌, append_assoc, arith, eqb-true, leb-false, leb-true}
use borrow.Author.Tests.{eqb-false}
use Rattle.laws.specs.Choice.{pick}
use Rattle.words.specs.declared.Config.{Config}
use Rattle.state.specs.State.{State, env}
use Rattle.state.specs.Claims.{Follows, Halts}
use Rattle.state.specs.Run.{Run, run_call}
use Rattle.state.specs.Step.{Outcome, step_of}
use Rattle.state.proofs.Calls.{run_by_steps}
use Rattle.state.proofs.StaysValid.{step_valid}
use Rattle.state.proofs.Unchanged.{refused_stays}
use Rattle.text.proofs.Written.{between}
use Rattle.printing.specs.Puts.{Puts}
use Rattle.yam_run.specs.Running.{line_of, number_of, cycles_of, bytes_of}
use Rattle.yam_run.specs.Tracing.{report_in, trace_text, turns_text, TracesJoin, trace_lines, TraceAsRun}

-- bytes that had room stand at the page's start
put_whole : {p q : List ℕ} {r : ℕ} (t : List ℕ) → Puts p 0 t r q → r ≤ length p → take r q ≡ t
put_whole {p} {q} {r} t h k = go (leb (0 + length t) (length p)) refl
  where
    go : (b : Bool) → leb (0 + length t) (length p) ≡ b → take r q ≡ t
    go true e =
        let w = h.fits (leb-true (0 + length t) (length p) e) in
        rw (w.page, w.next) (between p 0 t (leb-true (0 + length t) (length p) e))
    go false e = absurd (let x = h.over (leb-false (0 + length t) (length p) e) in omega arith)

pub traces_join : TracesJoin
unfolding trace_text turns_text pick
traces_join c image inputs zero done cycles s [] h = refl
traces_join c image inputs zero done cycles s (t ∷ ts) h = absurd h
traces_join c image inputs (suc k) done cycles s [] h = absurd h
traces_join c image inputs (suc k) done cycles s (t ∷ ts) h =
    rw (← h.0.answer)
    (go (eqb (number_of t.answer) 0) refl (λ z. traces_join c image inputs k (suc done) ((cycles + cycles_of t.answer) % 2 ^ 64) t.after ts (h.2 z)))
  where
    go : (b : Bool) → eqb (number_of t.answer) 0 ≡ b →
        (number_of t.answer ≡ 0 → turns_text c (suc done) ((cycles + cycles_of t.answer) % 2 ^ 64) t.after ts ≡
        trace_text c image inputs k (suc done) ((cycles + cycles_of t.answer) % 2 ^ 64) t.after) →
        pick b (take (bytes_of t.answer) t.left ++ turns_text c (suc done) ((cycles + cycles_of t.answer) % 2 ^ 64) t.after ts)
        (report_in c (number_of t.answer) done cycles t.after) ≡
        pick b (line_of c image (suc done) cycles s (record { number = number_of t.answer; cycles = cycles_of t.answer; state = t.after }) ++
        trace_text c image inputs k (suc done) ((cycles + cycles_of t.answer) % 2 ^ 64) t.after)
        (report_in c (number_of t.answer) done cycles t.after)
    go true e later =
        let z = eqb-true (number_of t.answer) 0 e in
        let l : take (bytes_of t.answer) t.left ≡ line_of c image (suc done) cycles s (record { number = number_of t.answer; cycles = cycles_of t.answer; state = t.after }) =
        put_whole _ (h.0.prints z) h.1 ∙ ap (λ (o : Outcome). line_of c image (suc done) cycles s o) (sym h.0.answer) in
        rw (l, later z)
    go false e later = refl

-- the report of a trace is the run's

same-report : (c : Config) {n m a b x y : ℕ} {s t : State} → n ≡ m → a ≡ b → x ≡ y → s ≡ t → report_in c n a x s ≡ report_in c m b y t
same-report c {n} {m} {a} {b} {x} {y} {s} {t} p q r u =
    ap (λ (z : ℕ). report_in c z a x s) p ∙ ap (λ (z : ℕ). report_in c m z x s) q ∙ ap (λ (z : ℕ). report_in c m b z s) r ∙ ap (λ (z : State). report_in c m b y z) u

-- a run that takes no step
halted : (c : Config) (n done cycles : ℕ) (s t : State) (r : Run) → cycles < 2 ^ 64 → t ≡ s → Halts s n r →
    report_in c n done cycles t ≡ report_in c r.number (done + r.steps) ((cycles + r.cycles) % 2 ^ 64) r.last
halted c n done cycles s t r h e x =
    let a = x.steps in
    let b = x.cycles in
    same-report c (sym x.number) (omega arith) (omega arith) (e ∙ sym x.last)

-- a step, and then a run
followed : (c : Config) (done cycles : ℕ) (s : State) (o : Outcome) (q r : Run) → Follows s o q r →
    report_in c q.number (suc done + q.steps) (((cycles + o.cycles) % 2 ^ 64 + q.cycles) % 2 ^ 64) q.last ≡
    report_in c r.number (done + r.steps) ((cycles + r.cycles) % 2 ^ 64) r.last
followed c done cycles s o q r x =
    let a = x.steps in
    let b = x.cycles in
    same-report c (sym x.number) (omega arith) (omega arith) (sym x.last)

pub trace_as_run : TraceAsRun
unfolding trace_text trace_lines pick
trace_as_run c image inputs zero done cycles s v f h =
    let e = env c image inputs in
    halted c 0 done cycles s s (run_call 0 e s) h refl (run_by_steps.none e s v)
trace_as_run c image inputs (suc k) done cycles s v f h =
    let e = env c image inputs in
    let o = step_of e s in
    let n = (cycles + o.cycles) % 2 ^ 64 in
    go (eqb o.number 0) refl
    (λ z. trace_as_run c image inputs k (suc done) n o.state (step_valid e s z) (omega (arith, f)) (omega arith))
  where
    go : let e = env c image inputs in let o = step_of e s in let n = (cycles + o.cycles) % 2 ^ 64 in let q = run_call k e o.state in let r = run_call (suc k) e s in
        (b : Bool) → eqb o.number 0 ≡ b →
        (o.number ≡ 0 → trace_text c image inputs k (suc done) n o.state ≡
        trace_lines c image inputs k (suc done) n o.state ++ report_in c q.number (suc done + q.steps) ((n + q.cycles) % 2 ^ 64) q.last) →
        pick b (line_of c image (suc done) cycles s o ++ trace_text c image inputs k (suc done) n o.state) (report_in c o.number done cycles o.state) ≡
        pick b (line_of c image (suc done) cycles s o ++ trace_lines c image inputs k (suc done) n o.state) [] ++
        report_in c r.number (done + r.steps) ((cycles + r.cycles) % 2 ^ 64) r.last
    go true e later =
        let w = env c image inputs in
        let o = step_of w s in
        let z = eqb-true o.number 0 e in
        let l = line_of c image (suc done) cycles s o in
        let m = trace_lines c image inputs k (suc done) ((cycles + o.cycles) % 2 ^ 64) o.state in
        ap (λ (x : List ℕ). l ++ x)
        (later z ∙ ap (λ (x : List ℕ). m ++ x) (followed c done cycles s o (run_call k w o.state) (run_call (suc k) w s) (run_by_steps.goes_on k w s f z)))
        ∙ sym (append_assoc l m _)
    go false e later =
        let w = env c image inputs in
        let o = step_of w s in
        let z = eqb-false o.number 0 e in
        halted c o.number done cycles s o.state (run_call (suc k) w s) h (refused_stays w s z) (run_by_steps.stops k w s f z)
