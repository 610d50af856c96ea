-- The page keeps its length; where more is to come, a page with room for the longest line printed a line or more.
use mathlib.Core.Path.{◌≡◌}
use lib.ListN.{length}
use Rattle.yam_list.specs.Claims.{size_of}
use Rattle.yam_list.proofs.Pages.{left}
use Rattle.yam_list.proofs.print_all.Given as goal

abbrev pub invariant-loop-come : goal.invariant-loop-come
invariant-loop-come g l = length l.page ≡ 65536

abbrev pub decreases-loop-come : goal.decreases-loop-come
decreases-loop-come g l = left (size_of l.loaded) l.come
