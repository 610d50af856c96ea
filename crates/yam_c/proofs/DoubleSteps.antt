-- K8 of two yam_step calls: each leaves the state of its step in the lists.
-- Assumes nothing.
use mathlib.Core.Path.{sym, subst}
use Rattle.words.specs.Kinds.{compute}
use Rattle.arith.specs.DoubleSums.{on_low, on_high}
use Rattle.state.specs.State.{env}
use Rattle.state.specs.ComesBack as step
use Rattle.state.specs.DoubleSteps as claim
use Rattle.state.proofs.DoubleSteps.{double_steps}
use Rattle.yam_c.specs.Flat.{config_of}
use Rattle.yam_c.specs.Claims.{state_in}
use Rattle.yam_c.specs.DoubleSteps.{DoubleStepsLists}
use Rattle.yam_c.proofs.ComesBack.{does, leaves}

pub double_steps_lists : DoubleStepsLists
double_steps_lists config image inputs o l h s t u k =
    let e = env (config_of config) image inputs in
    let p = leaves config image inputs (compute (on_low o) l) s t k.low in
    let q = leaves config image inputs (compute (on_high o) h) t u k.high in
    let met : claim.InARow e o l h (state_in s) =
    record {
      low = does config image inputs (compute (on_low o) l) s t k.low;
      high = subst (step.CarriesOut e (compute (on_high o) h)) (sym p) (does config image inputs (compute (on_high o) h) t u k.high);
      apart = subst (λ x. claim.Apart e (state_in s) x h) (sym p) k.apart;
    } in
    subst (claim.Totals e (state_in s) (state_in t) o l h) q
    (subst (λ x. claim.Totals e (state_in s) x o l h (step.after_step e x)) p (double_steps e o l h (state_in s) met))
