-- What settles an address at once, in place of the rules one by one. Nothing here is to be believed: proofs/settling/Laws.antt ties it to Rules.
use Rattle.std.specs.Prelude.{ℕ, ◌+◌, ◌%◌, ◌<◌, ◌≤◌, ◌≡◌, Bool, T}
use Rattle.laws.specs.Choice.{pick}
use Rattle.laws.specs.Test.{Holds, same, if?, ◌and◌}
use Rattle.words.specs.declared.Facts.{Facts}
use Rattle.state.specs.Stops.{stop8}
use Rattle.rules.specs.Marks.{sub_of, level_of, mode_of}

-- mark x with the mode that a word with facts f leaves
abbrev pub mark_after : Facts → ℕ → ℕ
mark_after f x = pick f.enters (x % 128 + 128) (pick f.leaves (x % 128) x)

-- a successor of mark y keeps rules 4 to 7 after a word that leaves mark e
pub record Follows (by_call : Bool) (e y : ℕ) : Type 0 where
  pub used : y ≡ 255 → ⊥
  pub sub : sub_of y ≡ pick by_call 1 (sub_of e)
  pub level : level_of y ≤ level_of e
  pub lower : T by_call → level_of y < level_of e
  pub mode : mode_of y ≡ mode_of e

-- a word with facts f and that source register may stand in the mode of mark x
abbrev pub Allowed : Facts → ℕ → ℕ → Type 0
Allowed f source x = Holds (if? f.enters (same (mode_of x) 0) and stop8 (mode_of x) source f)
