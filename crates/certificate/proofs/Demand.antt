-- Demand 3 of the public calls: what a call answers is what its definition says, and the invariant of rules goes from call to call.
-- Assumes nothing.
use Prim.Native.Nat.{ℕ}
use mathlib.Core.Path.{◌≡◌, sym, ap}
use mathlib.Core.List.{List, [], ◌∷◌}
use Rattle.words.specs.declared.Config.{Config}
use Rattle.state.specs.State.{Env, State, env}
use Rattle.state.specs.Calls.{call_of}
use Rattle.rules.specs.Marks.{mark_at, level_of}
use Rattle.rules.specs.Check.{Answer, check_of, Passes}
use Rattle.rules.specs.Demand.{at_reset}
use Rattle.rules.specs.Invariant.{Invariant}
use Rattle.rules.proofs.Exact.{exact}
use Rattle.rules.proofs.First.{names_first}
use Rattle.rules.proofs.Targets.{caught_by_3}
use Rattle.rules.proofs.Stepping.{low}
use Rattle.rules.proofs.Demand.{call_well, reset_holds, passed_level, demand_3}
use Rattle.certificate.specs.Demand.{Made, stepped, ran, call_in, number_of, left_by, Promised, Answered, AllAllowed, Demand3Calls}
use Rattle.certificate.specs.Claims.{Checks}

-- an answer that is promised is the definition's

pub record Agrees (e : Env) (s : State) (m : Made) : Type 0 where
  pub number : (call_of e (call_in m) s).number ≡ number_of m
  pub left : (call_of e (call_in m) s).last ≡ left_by m

agrees : (e : Env) (s : State) (m : Made) → Promised e s m → Agrees e s m
unfolding call_of
agrees e s (stepped o) h =
    record { number = ap (λ p. p.number) (sym h.answer); left = ap (λ p. p.state) (sym h.answer) }
agrees e s (ran budget x) h =
    record { number = ap (λ p. p.number) (sym h.answer); left = ap (λ p. p.last) (sym h.answer) }

module _ (e : Env) (certificate : List ℕ) (ok : Passes e.config e.image certificate) where
  all_allowed : (ms : List Made) (s : State) → Invariant e certificate s → Answered e s ms → AllAllowed (level_of (mark_at certificate 0)) e s ms
  all_allowed [] s v h = tt
  all_allowed (m ∷ ms) s v h =
      let a = agrees e s m h.0 in
      let w = call_well e certificate ok (call_in m) s v in
      let v' : Invariant e certificate (left_by m) = rw (← a.left) w.last in
      (record { number = rw (← a.number) w.fine.answer; left = low e certificate ok (left_by m) v'; stack = w.fine.stack }, all_allowed ms (left_by m) v' h.1)

pub demand_3_calls : Demand3Calls
demand_3_calls c image certificate l pass inputs registers memory addresses values rl rb ml mb ll calls h =
    let e = env c image inputs in
    let ok = (exact c image certificate).sound (ap (λ a. a.number) pass) in
    rw (← passed_level c image certificate l pass)
    (all_allowed e certificate ok calls (at_reset registers memory addresses values)
    (reset_holds e certificate ok registers memory addresses values rl rb ml mb ll) h)

-- what the check promises follows from its answer
pub checks : (c : Config) (image certificate : List ℕ) (r : Answer) → r ≡ check_of c image certificate → Checks c image certificate r
checks c image certificate r e =
    record { answer = e; exact = exact; names_first = names_first; caught_by_3 = caught_by_3; demand3 = demand_3; demand3_calls = demand_3_calls }
