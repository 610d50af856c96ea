-- What holds of every state of a machine that runs a program whose certificate passes: the invariant behind demand 3, a name for each part.
use Rattle.std.specs.Prelude.{ℕ, ◌+◌, ◌<◌, ◌≤◌, min, ◌≡◌, List, T, length, get_or}
use Rattle.words.specs.declared.Config.{Config}
use Rattle.state.specs.State.{Env, State}
use Rattle.state.specs.Claims.{Valid}
use Rattle.rules.specs.Marks.{mark_at, used, level_of, sub_of, mode_of}
use Rattle.rules.specs.Rules.{reads_port}

-- control may be at address a with d addresses on the return stack, in mode m
pub record Spot (c : Config) (certificate : List ℕ) (a d m : ℕ) : Type 0 where
  pub below : a < c.imsize
  pub used : T (used (mark_at certificate a))
  pub level : d + level_of (mark_at certificate a) ≤ level_of (mark_at certificate 0)
  pub sub : sub_of (mark_at certificate a) ≡ min 1 d  -- main exactly where the stack is empty
  pub mode : mode_of (mark_at certificate a) ≡ m

pub record Control (c : Config) (image certificate : List ℕ) (pc depth : ℕ) (stack : List ℕ) (mode posted : ℕ) : Type 0 where
  pub here : Spot c certificate pc depth mode
  pub saved : (j : ℕ) → j < depth → Spot c certificate (get_or stack j 0) j 0  -- j addresses lie below this one; normal mode
  pub places : length stack ≡ 63
  pub quiet : posted ≡ 1 → T (reads_port c image pc) → ⊥  -- after a port write the word at PC is no port read

pub record Invariant (e : Env) (certificate : List ℕ) (s : State) : Type 0 where
  pub control : Control e.config e.image certificate s.core.pc s.core.depth s.stack s.core.mode s.core.posted
  pub valid : Valid e s  -- 1, 2 and 3 let it pass
