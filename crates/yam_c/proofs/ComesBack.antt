-- K6 of the C interface's calls: the state in the lists goes from call to call as the definitions have it.
-- Assumes nothing.
use Prim.Native.Nat.{ℕ}
use mathlib.Core.Path.{◌≡◌, sym, ap, subst, ◌∙◌}
use mathlib.Core.List.{List, [], ◌∷◌}
use Rattle.laws.specs.First.{Every}
use Rattle.words.specs.Kinds.{Kind}
use Rattle.state.specs.State.{Env, env}
use Rattle.state.specs.Step.{step_of}
use Rattle.state.specs.Calls.{Call, step, call_of}
use Rattle.state.specs.ComesBack as claim
use Rattle.state.specs.ComesBack.{Reaches, here, register_zero, Restored}
use Rattle.state.proofs.ComesBack.{comes_back, goes_along}
use Rattle.yam_c.specs.Flat.{config_of}
use Rattle.yam_c.specs.Calls.{step_left}
use Rattle.yam_c.specs.Claims.{Held, state_in, left_by, call_with}
use Rattle.yam_c.specs.ComesBack.{held_after, CarriesOut, Switch, ComesBackLists}
use Rattle.yam_c.proofs.HandsOn.{agrees}

module _ (config image inputs : List ℕ) where
  abbrev e : Env
  e = env (config_of config) image inputs

  lists_go : (calls : List (Call × List ℕ)) (h : Held) → Reaches e (state_in h) (state_in (held_after config image inputs calls h))
  lists_go [] h = here (state_in h)
  lists_go (c ∷ cs) h =
      let x = left_by (call_with config image inputs h c.0 c.1) in
      let one = subst (Reaches e (state_in h)) (agrees config image inputs h c.0 c.1).left (goes_along.calls e (c.0 ∷ []) (state_in h)) in
      goes_along.joins e (state_in h) (state_in x) (state_in (held_after config image inputs cs x)) one (lists_go cs x)

  goes_through : (c : Call) (answers : List ℕ) (h : Held) →
      let after = state_in (left_by (call_with config image inputs h c answers)) in
      Every (λ t. Reaches e (state_in h) t × Reaches e t after) (call_of e c (state_in h)).through
  goes_through c answers h =
      subst (λ after. Every (λ t. Reaches e (state_in h) t × Reaches e t after) (call_of e c (state_in h)).through)
      (agrees config image inputs h c answers).left
      (goes_along.through e c (state_in h))

  -- the step that a yam_step carried out
  pub does : (k : Kind) (h u : Held) → CarriesOut config image inputs k h u → claim.CarriesOut e k (state_in h)
  unfolding step_left call_of
  does k h u d = record { kind = d.kind; done = (agrees config image inputs h step d.answers).number ∙ d.done }

  pub leaves : (k : Kind) (h u : Held) → CarriesOut config image inputs k h u → (step_of e (state_in h)).state ≡ state_in u
  unfolding call_of
  leaves k h u d = (agrees config image inputs h step d.answers).left ∙ ap state_in (sym d.left)

  back : (h entered t u : Held) → Switch config image inputs h entered t u → Restored (state_in h) (state_in u)
  back h entered t u w =
      let p = leaves claim.JSRWP h entered w.call in
      let q = leaves claim.RETWP t u w.return in
      let run : Reaches e (state_in entered) (state_in t) =
      subst (λ x. Reaches e (state_in entered) (state_in x)) (sym w.run) (lists_go w.calls entered) in
      let met : claim.Switch e (state_in h) (state_in t) =
      record {
        call = does claim.JSRWP h entered w.call;
        run = subst (λ x. Reaches e x (state_in t)) (sym p) run;
        return = does claim.RETWP t u w.return;
        wp = w.wp ∙ ap (λ x. x.core.wp) (sym p);
        zero = subst (λ x. register_zero x.core.wp (state_in t) ≡ register_zero x.core.wp x) (sym p) w.zero;
      } in
      subst (Restored (state_in h)) q (comes_back e (state_in h) (state_in t) met)

pub comes_back_lists : ComesBackLists
comes_back_lists = record { goes_along = lists_go; through = goes_through; comes_back = back }
