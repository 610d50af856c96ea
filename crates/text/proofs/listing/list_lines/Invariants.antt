-- The lines that are left list what all from `first` on would have listed.
use Rattle.std.proofs.Common.{◌≡◌, ◌-◌, ◌≤◌, length}
use Rattle.text.specs.Lines.{listed}
use Rattle.text.proofs.listing.list_lines.Given as goal

abbrev pub invariant-loop-a : goal.invariant-loop-a
invariant-loop-a l =
    (length l.page ≡ length l.fn.page)
    × (listed l.reader.config l.image l.page l.at l.a (length l.image - l.a) ≡ listed l.reader.config l.image l.fn.page l.place l.first (length l.image - l.first))
    × (length l.image ≤ l.first → l.a ≡ l.first)
