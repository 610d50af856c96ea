-- Coming back from a context switch, document 02's K6, of this interface's calls. A C caller sees the machine between calls, so here the JSRWP and the RETWP are
-- carried out by yam_step, with any calls between them. Of those within a yam_run state's claim speaks, over the states that the run passes through.
use Rattle.std.specs.Prelude.{ℕ, ◌≡◌, List, [], ◌∷◌}
use Rattle.laws.specs.First.{Every}
use Rattle.words.specs.Kinds.{Kind}
use Rattle.state.specs.State.{env}
use Rattle.state.specs.Stops.{kind_at}
use Rattle.state.specs.Calls.{Call, step, call_of}
use Rattle.state.specs.ComesBack.{JSRWP, RETWP, Reaches, register_zero, Restored}
use Rattle.yam_c.specs.Flat.{config_of}
use Rattle.yam_c.specs.Claims.{Held, state_in, left_by, call_with}

-- the lists after calls, each with its list of answers, one after the other
abbrev pub held_after : List ℕ → List ℕ → List ℕ → List (Call × List ℕ) → Held → Held
held_after config image inputs [] h = h
held_after config image inputs (c ∷ cs) h = held_after config image inputs cs (left_by (call_with config image inputs h c.0 c.1))

-- yam_step on the lists h, with an instruction of kind k at PC, answers 0 and leaves the lists u
pub record CarriesOut (config image inputs : List ℕ) (k : Kind) (h u : Held) : Type 0 where
  pub kind : kind_at (env (config_of config) image inputs) (state_in h) ≡ k
  pub answers : List ℕ
  pub done : (call_with config image inputs h step answers).number ≡ 0
  pub left : u ≡ left_by (call_with config image inputs h step answers)

-- a call on the lists h, which leaves those of entered; a return on the lists t, which leaves those of u
pub record Switch (config image inputs : List ℕ) (h entered t u : Held) : Type 0 where
  -- "take any run from a JSRWP that was carried out"
  pub call : CarriesOut config image inputs JSRWP h entered
  pub calls : List (Call × List ℕ)
  pub run : t ≡ held_after config image inputs calls entered
  -- "to a RETWP carried out"
  pub return : CarriesOut config image inputs RETWP t u
  -- "while the workspace pointer has the value which that JSRWP set"
  pub wp : (state_in t).core.wp ≡ (state_in entered).core.wp
  -- "and that bank's register zero holds what it stored there"
  pub zero : let w = (state_in entered).core.wp in register_zero w (state_in t) ≡ register_zero w (state_in entered)

pub record ComesBackLists : Type 0 where
  -- what the lists hold after any calls, refused ones included, is reached by steps that were carried out; so is every state that a call passes through, and
  -- from there what the lists hold after the call
  pub goes_along : (config image inputs : List ℕ) (calls : List (Call × List ℕ)) (h : Held) →
      Reaches (env (config_of config) image inputs) (state_in h) (state_in (held_after config image inputs calls h))
  pub through : (config image inputs : List ℕ) (c : Call) (answers : List ℕ) (h : Held) →
      let e = env (config_of config) image inputs in
      let after = state_in (left_by (call_with config image inputs h c answers)) in
      Every (λ t. Reaches e (state_in h) t × Reaches e t after) (call_of e c (state_in h)).through
  pub comes_back : (config image inputs : List ℕ) (h entered t u : Held) → Switch config image inputs h entered t u → Restored (state_in h) (state_in u)
