-- Double-length sums, document 02's K8, of this interface's calls: two yam_step calls one after the other.
use Rattle.std.specs.Prelude.{ℕ, List}
use Rattle.words.specs.Kinds.{Operand, compute}
use Rattle.arith.specs.DoubleSums.{Direction, on_low, on_high}
use Rattle.state.specs.State.{env}
use Rattle.state.specs.DoubleSteps.{Apart, Totals}
use Rattle.yam_c.specs.Flat.{config_of}
use Rattle.yam_c.specs.Claims.{Held, state_in}
use Rattle.yam_c.specs.ComesBack.{CarriesOut}

-- ADD on the lists s, which leaves those of t, and on these ADDC, which leaves those of u; or SUB and SUBC
pub record InARow (config image inputs : List ℕ) (o : Direction) (l h : Operand) (s t u : Held) : Type 0 where
  pub low : CarriesOut config image inputs (compute (on_low o) l) s t
  pub high : CarriesOut config image inputs (compute (on_high o) h) t u
  pub apart : Apart (env (config_of config) image inputs) (state_in s) (state_in t) h

abbrev pub DoubleStepsLists : Type 0
DoubleStepsLists =
    (config image inputs : List ℕ) (o : Direction) (l h : Operand) (s t u : Held) →
    InARow config image inputs o l h s t u →
    Totals (env (config_of config) image inputs) (state_in s) (state_in t) o l h (state_in u)
