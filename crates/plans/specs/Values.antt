-- What the plans promise, beside state's definitions. A sum that is too large for 64 bits wraps in the code; a core in its ranges has none.
use Rattle.std.specs.Prelude.{ℕ, ◌+◌, ◌*◌, ◌/◌, ◌%◌, ◌^◌, Bool, ◌==◌}
use Rattle.laws.specs.Choice.{pick}
use Rattle.words.specs.declared.Config.{Config}
use Rattle.words.specs.declared.Operation.{Operation}
use Rattle.arith.specs.declared.Word.{Word}
use Rattle.state.specs.declared.Core.{Core}
use Rattle.state.specs.declared.Change.{Change}
use Rattle.state.specs.Cores.{at, posting, flagged, indexed, moved, to_register}
use Rattle.state.specs.Plans.{alu}
use Rattle.plans.specs.declared.Operands.{Operands}

-- one more, in 64 bits
unfoldable pub up : ℕ → ℕ
up n = (n + 1) % 2 ^ 64

-- control goes to p, and nothing is posted any more
abbrev pub went : Core → ℕ → Core
went m p = posting (at m p) 0 0

-- state's `next`, in 64 bits
abbrev pub onward : Core → Core
onward m = went m (up m.pc)

-- state's `advanced`, in 64 bits
unfoldable pub further : Config → Core → Core
further c m = indexed m m.loaded (pick (up m.rx == c.regsize) 0 (up m.rx)) m.ry

abbrev pub operands : ℕ → ℕ → ℕ → Operands
operands at d x = record { at = at; d = d; x = x }

-- the result of operation o to the destination with its flags, and the flags alone
abbrev result : Config → Core → Operation → Operands → Word
result c m o t = alu c o t.d t.x m.n

unfoldable pub computed : Config → Core → ℕ → Operation → Operands → Change
computed c m bit26 o t =
    to_register (flagged (onward m) bit26 (result c m o t).z (result c m o t).n) t.at (result c m o t).value

unfoldable pub compared : Config → Core → ℕ → Operation → Operands → Change
compared c m bit26 o t = moved (flagged (onward m) bit26 (result c m o t).z (result c m o t).n)

-- whether bit 2 N + Z of k is set
unfoldable pub taken_at : ℕ → ℕ → ℕ → Bool
taken_at k n z = k / 2 ^ (2 * (n % 2) + z % 2) % 2 == 1
