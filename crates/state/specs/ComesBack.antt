-- Coming back from a context switch: document 02, K6. "This is the fault that cost us a claim. State it of the model: take any run from a JSRWP that was
-- carried out, to a RETWP carried out while the workspace pointer has the value which that JSRWP set and that bank's register zero holds what it stored
-- there. Then PC is the call's address plus one, and WP, N, Z and the interrupt mask are as before the call. Other registers may differ, since banks may
-- overlap."
use Rattle.std.specs.Prelude.{ℕ, ◌+◌, ◌*◌, ◌≡◌, List, [], ◌∷◌, get_or}
use Rattle.laws.specs.First.{Every}
use Rattle.words.specs.Kinds.{Kind, enter_bank, leave_bank}
use Rattle.state.specs.State.{Env, State}
use Rattle.state.specs.Context.{context_of, wp_in, n_in, z_in, mask_in, address_in}
use Rattle.state.specs.Stops.{parts_at, kind_at}
use Rattle.state.specs.Step.{step_of}
use Rattle.state.specs.Calls.{Call, call_of}

abbrev pub JSRWP : Kind
JSRWP = enter_bank

abbrev pub RETWP : Kind
RETWP = leave_bank

-- an instruction of kind k stands at PC, and the step from s is carried out: no number refuses it, so 1, 2 and 3 let s pass
pub record CarriesOut (e : Env) (k : Kind) (s : State) : Type 0 where
  pub kind : kind_at e s ≡ k
  pub done : (step_of e s).number ≡ 0

-- the state that the step from s leaves
abbrev pub after_step : Env → State → State
after_step e s = (step_of e s).state

-- t is reached from s by steps that are carried out, none or more
pub data Reaches (e : Env) : State → State → Type 0 where
  here : (s : State) → Reaches e s s
  onward : (s t : State) → (step_of e s).number ≡ 0 → Reaches e (after_step e s) t → Reaches e s t

-- register zero of the bank at w
abbrev pub register_zero : ℕ → State → ℕ
register_zero w s = get_or s.registers w 0

-- What K6 takes: a call from s, in every environment, and a return from t. The value that the JSRWP set and the word that it stored are those in the state
-- that it left; of the steps between nothing else is asked.
pub record Switch (e : Env) (s t : State) : Type 0 where
  -- "take any run from a JSRWP that was carried out"
  pub call : CarriesOut e JSRWP s
  pub run : Reaches e (after_step e s) t
  -- "to a RETWP carried out"
  pub return : CarriesOut e RETWP t
  -- "while the workspace pointer has the value which that JSRWP set"
  pub wp : t.core.wp ≡ (after_step e s).core.wp
  -- "and that bank's register zero holds what it stored there"
  pub zero : let w = (after_step e s).core.wp in register_zero w t ≡ register_zero w (after_step e s)

-- What K6 says of the state u after the return, by the state s before the call. "Other registers may differ": nothing is said of them.
pub record Restored (s u : State) : Type 0 where
  -- "Then PC is the call's address plus one"
  pub pc : u.core.pc ≡ s.core.pc + 1
  -- "and WP, N, Z and the interrupt mask are as before the call"
  pub wp : u.core.wp ≡ s.core.wp
  pub n : u.core.n ≡ s.core.n
  pub z : u.core.z ≡ s.core.z
  pub imask : u.core.imask ≡ s.core.imask

abbrev pub ComesBack : Type 0
ComesBack = (e : Env) (s t : State) → Switch e s t → Restored s (after_step e t)

-- Beside it: what a JSRWP sets and stores, and that a RETWP goes by register zero of its bank and by nothing else, whatever wrote it. So a routine that
-- overwrites it goes where the new word says, which need not be back.

-- u is in the bank of this unit, "WP/16", and its register zero has the context of s
pub record Entered (unit : ℕ) (s u : State) : Type 0 where
  pub wp : u.core.wp ≡ 16 * unit
  pub zero : register_zero (16 * unit) u ≡ context_of s.core

-- u has what the context x says
pub record Taken (x : ℕ) (u : State) : Type 0 where
  pub pc : u.core.pc ≡ address_in x
  pub wp : u.core.wp ≡ wp_in x
  pub n : u.core.n ≡ n_in x
  pub z : u.core.z ≡ z_in x
  pub imask : u.core.imask ≡ mask_in x

pub record GoesByZero : Type 0 where
  pub stores : (e : Env) (s : State) → CarriesOut e JSRWP s → Entered (parts_at e s).destination s (after_step e s)
  pub takes : (e : Env) (t : State) → CarriesOut e RETWP t → Taken (register_zero t.core.wp t) (after_step e t)

-- "take any run": step and run calls go along the steps that are carried out. What a list of calls leaves, refused and stopped ones included, is reached
-- from where it started; every state that a call passes through is reached, and from there the state that the call leaves.

abbrev pub left_by : Env → List Call → State → State
left_by e [] s = s
left_by e (c ∷ cs) s = left_by e cs (call_of e c s).last

pub record GoesAlong : Type 0 where
  pub calls : (e : Env) (cs : List Call) (s : State) → Reaches e s (left_by e cs s)
  pub through : (e : Env) (c : Call) (s : State) → Every (λ t. Reaches e s t × Reaches e t (call_of e c s).last) (call_of e c s).through
  pub joins : (e : Env) (s t u : State) → Reaches e s t → Reaches e t u → Reaches e s u
