-- Steps that the loop does not carry out: SPR_ON and SPR_OFF, words that are refused, and steps in special-register mode. It says how the code goes about
-- them; the laws of proofs/ tie it to state's definitions.
use Rattle.std.specs.Prelude.{ℕ, ◌+◌, Bool, ◌&&◌, List, eqb, set}
use Rattle.laws.specs.Choice.{pick}
use Rattle.laws.specs.Test.{member}
use Rattle.words.specs.declared.Config.{Config}
use Rattle.state.specs.declared.Core.{Core}
use Rattle.state.specs.Cores.{masked}
use Rattle.state.specs.Operands.{special_register}
use Rattle.state.specs.Stops.{specials}
use Rattle.cells.specs.Cell.{action_in, destination_in, source_in, turns_on, turns_off}
use Rattle.plans.specs.Values.{onward}
use Rattle.machine.specs.declared.Turns.{Turns}

-- no step: it is stopped
abbrev pub stopped_by : Core → ℕ → Turns
stopped_by m n = record { stop = n; steps = 0; cycles = 0; core = m }

-- one step, of two cycles
abbrev pub passed_to : Core → Turns
passed_to m = record { stop = 0; steps = 1; cycles = 2; core = m }

-- what a cell of action 0 and value n does
unfoldable pub switched : Core → ℕ → Turns
switched m n =
    pick (eqb n turns_off) (passed_to (masked (onward m) m.saved m.saved 0))
    (pick (eqb n turns_on) (pick (eqb m.mode 0) (passed_to (masked (onward m) 15 m.imask 1)) (stopped_by m 8)) (stopped_by m n))

-- whether cell x is MOV of a special register, by the number of its action
unfoldable pub reveals : ℕ → Bool
reveals x = eqb (action_in x) 42 && member (source_in x) specials

-- what another cell does in special-register mode, and what it leaves of the registers
unfoldable pub revealed : Core → ℕ → Turns
revealed m x = pick (reveals x) (passed_to (onward m)) (stopped_by m 8)

unfoldable pub revealed_in : Config → Core → ℕ → List ℕ → List ℕ
revealed_in c m x registers = pick (reveals x) (set registers (m.wp + destination_in x) (special_register c m.spr7 (source_in x))) registers
