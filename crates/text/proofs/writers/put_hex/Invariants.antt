-- Of the digits, an odd one and two for each turn to come are left, and fall where they are to fall.
use Rattle.std.proofs.Common.{◌≡◌, ◌+◌, ◌*◌, length}
use lib.Seq.{sets}
use Rattle.syntax.specs.Digits.{hex}
use Rattle.text.proofs.writers.put_hex.Given as goal

abbrev pub invariant-loop-i : goal.invariant-loop-i
invariant-loop-i l =
    (length l.page ≡ length l.fn.page) × (sets l.page l.at (hex (l.odd + 2 * l.i) l.rest) ≡ sets l.fn.page l.at (hex l.w l.n))
